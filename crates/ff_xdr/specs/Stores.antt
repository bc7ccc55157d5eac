-- The bytes of a list, wherever they are.
use Rattle.std.specs.Prelude.{ℕ, List}
use Rattle.ff_xdr.specs.declared.data.Store.{Store}
use Rattle.ff_xdr.specs.declared.data.Store.TheVariants.{Own, Shared}

abbrev pub bytes_in : Store → List ℕ
bytes_in (Own bytes) = bytes.items
bytes_in (Shared bytes) = bytes.value.items
