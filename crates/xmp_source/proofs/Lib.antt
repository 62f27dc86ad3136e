mod OneRefusal
mod Sources
