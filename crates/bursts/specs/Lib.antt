-- What the contracts of the burst orders cite: 01's definition, and the parts that the code is made of.
pub mod Burst
pub mod Parts
