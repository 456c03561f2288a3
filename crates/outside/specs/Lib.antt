pub mod Bytes
pub mod Count
pub mod FilesInMemory
pub mod SinkInMemory
pub mod Store
pub mod WriterWithFaults
