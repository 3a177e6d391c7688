pub mod Answering
pub mod Lending
