pub mod GrantedBodies
