pub mod Advances
