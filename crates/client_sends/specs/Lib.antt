pub mod SendsOfUsers
