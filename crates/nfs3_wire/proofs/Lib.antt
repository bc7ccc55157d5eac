pub mod RepliesOfValues
