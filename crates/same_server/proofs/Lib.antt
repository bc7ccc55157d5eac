mod Asked
mod Plans
mod Same
