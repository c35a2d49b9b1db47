pub mod Rings
pub mod EndLists
pub mod Lending
pub mod Links
pub mod inner
