-- Why a call by bytes lays out what layout does.
pub mod Laying
