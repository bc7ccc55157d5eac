pub mod SessionOrder
