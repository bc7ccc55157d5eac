-- What the code shows of data, as a function.
use Rattle.std.specs.Prelude.{ℕ, List}
use Rattle.journal_print.specs.declared.data_text.Shown.{Shown}
use Rattle.journal_print.specs.declared.data_text.Shown.TheVariants as shown
use Rattle.cluster_model.specs.Wordings.{text_of_bytes}
use Rattle.journal_print.specs.Brief.{brief_bytes}

abbrev pub text_shown : Shown → List ℕ → List ℕ
text_shown shown.Whole bytes = text_of_bytes bytes
text_shown shown.Brief bytes = brief_bytes bytes
