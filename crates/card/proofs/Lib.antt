pub mod Numbers
pub mod Fields
pub mod Lines
pub mod Grammar
pub mod Lent
mod Stores
mod FieldLaws
mod CardLaws
mod StoredLaws
mod RecordLaws
mod Inputs
mod ReplayLaws
