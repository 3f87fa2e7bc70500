pub mod NodeTable
pub mod Inode
pub mod TreeFault
pub mod Bytes
