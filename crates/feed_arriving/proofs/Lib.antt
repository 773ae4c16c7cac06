mod Counts
mod Ends
mod Loop
