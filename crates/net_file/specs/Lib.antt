pub mod NetFile
