mod Accesses
mod Pasts
mod Stored
