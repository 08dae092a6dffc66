-- the demands, carried over to what a contract gives
pub mod Demands
