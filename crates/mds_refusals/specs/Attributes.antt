-- GETATTR: the attributes that there are, and their values (RFC 8881, sections 5.8 and 18.7).
use Rattle.std.specs.Prelude.{ℕ, ◌+◌, ◌*◌, ◌/◌, ◌%◌, Bool, true, false, ◌==◌, List, [], ◌++◌, if◌then◌else◌}
use Rattle.ff_xdr.specs.Form.{word, long}
use Rattle.mds_refusals.specs.declared.object.Object.{Object}
use Rattle.mds_refusals.specs.declared.object.Object.TheVariants.{Root, File}
use Rattle.mds_refusals.specs.declared.attributes.TheConstants.{LEASE_TIME, FIRST_WORD, SECOND_WORD, REGULAR, DIRECTORY}
use Rattle.mds_refusals.specs.declared.attributes.Attributes.{Attributes}
use Rattle.mds_refusals.specs.declared.attributes.AskedAttributes.{AskedAttributes}
use Rattle.mds_refusals.specs.declared.layout_get.TheConstants.{FLEX_FILES}

-- ---- bitmaps: attribute n has the value 2 ^ (n % 32) in word n / 32 (section 3.3.7)

abbrev pub has_bit : ℕ → ℕ → Bool
has_bit number value = (number / value) % 2 == 1

-- supported_attrs 0, type 1, change 3, size 4, lease_time 10; fs_layout_types 62
abbrev pub asked_of : ℕ → ℕ → AskedAttributes
asked_of first second = record {
  supported = has_bit first 1;
  object_type = has_bit first 2;
  change = has_bit first 8;
  size = has_bit first 16;
  lease_time = has_bit first 1024;
  layout_types = has_bit second 1073741824;
}

abbrev pub bit_of : Bool → ℕ → ℕ
bit_of is_asked value = if is_asked then value else 0

abbrev pub first_word : AskedAttributes → ℕ
first_word asked = bit_of asked.supported 1 + bit_of asked.object_type 2 + bit_of asked.change 8 + bit_of asked.size 16 + bit_of asked.lease_time 1024

abbrev pub second_word : AskedAttributes → ℕ
second_word asked = bit_of asked.layout_types 1073741824

-- ---- values

abbrev pub when : Bool → List ℕ → List ℕ
when is_asked bytes = if is_asked then bytes else []

abbrev pub supported_value : List ℕ
supported_value = word 2 ++ (word FIRST_WORD ++ word SECOND_WORD)

abbrev pub type_value : Object → List ℕ
type_value Root = word DIRECTORY
type_value (File file) = word REGULAR

abbrev pub layout_types_value : List ℕ
layout_types_value = word 1 ++ word FLEX_FILES

-- in the order of their numbers
abbrev pub values_of : AskedAttributes → Attributes → List ℕ
values_of asked a =
    when asked.supported supported_value
    ++ (when asked.object_type (type_value a.object)
    ++ (when asked.change (long a.change)
    ++ (when asked.size (long a.size)
    ++ (when asked.lease_time (word LEASE_TIME)
    ++ when asked.layout_types layout_types_value))))
