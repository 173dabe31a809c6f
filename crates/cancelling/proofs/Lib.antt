mod Trials
mod Verdicts
mod Normals
mod Lasts
