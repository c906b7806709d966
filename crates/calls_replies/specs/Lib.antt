-- What a reader must believe of the answers as bytes: each as a record.
pub mod Replies
