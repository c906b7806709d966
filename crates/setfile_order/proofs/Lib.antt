-- The entries lined up; the head of the lanes and what is behind it; what a file's tests say of its entries; counting the nodes on the way; and what an answer says of the file.
pub mod Lined
pub mod Onwards
pub mod First
pub mod Opening
pub mod Counting
pub mod Answers
