-- Where one can go on who goes through a set in the second form.
pub mod Onward
