mod SeenRoute
mod MayStocks
mod NextIsAsked
mod Taking
mod TakesNext
mod ReadsNext
mod OpenGates
mod Revoked
mod Reading
mod GoesOnward
mod Shares
mod Starting
mod Pumping
mod Waiting
mod Adding
mod Closings
mod Stepping
pub mod Finished
