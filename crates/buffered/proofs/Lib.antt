pub mod Alone
pub mod Answering
