pub mod RowLaws
mod Neighbours
mod WalkLaws
mod Relinking
mod AmongLaws
mod TopLaws
mod ChangeLaws
mod Walking
mod Leaving
mod OwingLaws
