mod Cases
mod Feeds
