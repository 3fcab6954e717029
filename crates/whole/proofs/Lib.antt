pub mod AllBytes
