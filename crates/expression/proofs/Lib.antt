-- `Fuel`, `Equations`, `Judged`, `Cases`, `Order` and `Lists` are for the crates above; the others serve this crate's proofs alone.
pub mod Fuel
pub mod Equations
pub mod Judged
pub mod Cases
pub mod Order
pub mod Lists
mod Below
mod Bound
mod Laws
mod KeyLaws
mod AgainLaws
