mod DrawLaws
mod Failing
mod Judging
mod Lengths
mod Sights
