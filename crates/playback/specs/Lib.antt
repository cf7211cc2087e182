pub mod Printed
pub mod Stages
