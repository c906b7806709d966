-- What RFC 5952 asks of the text of an address, section by section; nothing here says how to find it.
--
--   is_lower c           section 4.3: c is one of the bytes 0 to 9 and a to f
--   is_plain d           sections 4.1 and 4.3: the digits of a group, in lower case and without leading zeros
--   Writes ds gs        the digits ds are those of the groups gs, group by group
--   Zeros gs k n        n groups of zero stand in gs from place k on
--   Shortens gs k n     section 4.2: the two colons may stand for the n groups from place k on, and for no others
--   Recommended gs s    s is a text of the groups gs that follows all of these
use Rattle.std.specs.Prelude.{Bool, true, ◌&&◌, ◌||◌, List, [], ◌∷◌, map, ◌≡◌, ℕ, ◌+◌, ◌≤◌, ◌<◌, leb, length, take, drop, get_or}
use Rattle.text_decimal.specs.Decimal.{plain}
use Rattle.text_decimal.specs.Spans.{all_of}
use Rattle.text_hex.specs.Hex.{within, hex_number}
use Rattle.text_ipv6_write.specs.Ipv6.{joined, both_sides}

unfoldable pub is_lower : ℕ → Bool
is_lower c = within 0x30 0x39 c || within 0x61 0x66 c

unfoldable pub is_plain : List ℕ → Bool
is_plain d = all_of is_lower d && (leb 1 (length d) && plain d)

unfoldable pub all_plain : List (List ℕ) → Bool
all_plain [] = true
all_plain (d ∷ ds) = is_plain d && all_plain ds

pub record Writes (ds : List (List ℕ)) (gs : List ℕ) : Type 0 where
  pub plain : all_plain ds ≡ true
  pub groups : map hex_number ds ≡ gs

-- a place behind the last group counts as a group that is not zero
unfoldable pub Zeros : List ℕ → ℕ → ℕ → Type 0
Zeros gs k n = (i : ℕ) → i < n → get_or gs (k + i) 1 ≡ 0

pub record Shortens (gs : List ℕ) (k n : ℕ) : Type 0 where
  pub zeros : Zeros gs k n
  pub several : 2 ≤ n  -- 4.2.2: not one group alone
  pub longest : (j m : ℕ) → Zeros gs j m → m ≤ n  -- 4.2.1 and 4.2.3: as much as it can, the longest run
  pub first : (j : ℕ) → Zeros gs j n → k ≤ j  -- 4.2.3: of equal runs the first

pub data Recommended (gs s : List ℕ) : Type 0 where
  whole : (ds : List (List ℕ)) → Writes ds gs → s ≡ joined ds → ((j : ℕ) → Zeros gs j 2 → ⊥) → Recommended gs s
  shortened : (k n : ℕ) (left right : List (List ℕ)) → Shortens gs k n
      → Writes left (take k gs) → Writes right (drop (k + n) gs) → s ≡ both_sides left right → Recommended gs s
