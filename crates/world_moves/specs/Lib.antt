pub mod WorldMoves
