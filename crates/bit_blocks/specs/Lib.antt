pub mod Bits
pub mod Greatest
pub mod Octets
pub mod Packed
pub mod Polynomials
pub mod SoftValues
