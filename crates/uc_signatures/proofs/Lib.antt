mod AllNamed
mod Joined
mod Locals
