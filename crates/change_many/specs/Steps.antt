-- The steps that these calls share: what they find first, and pouring the networks of a file into the set or out of it.
--
--   FileReady w k d v f      the call with the file d goes on: v is what a pass over the pool found, and d is a file of the pool's family f;  AsksFile: that, or its refusal
--   SpanReady w k s v        the call with the range s goes on;  AsksSpan: that, or its refusal
--   Pourable .. a g          what pouring asks: the rules a of the call's arguments are kept, and g is the list that the call is to leave
--   Clear w k g c            c says whether set k may have the list g as far as its mark goes
--   SourcesIn, PoursIn       what counting a result and writing it ask, in either form
--   PourFits, with_poured        what writing a result asks, and the words that it leaves
use Rattle.std.specs.Prelude.{Bool, true, List, ◌++◌, ◌≡◌, ℕ, ◌^◌, ◌≤◌, ◌<◌, length, get_or, Result, Ok, Err}
use Rattle.nets.specs.Bits.{Bits}
use Rattle.nets.specs.Networks.{is_family, width}
use Rattle.nets.specs.Refusals.{Rule, number, first_no}
use Rattle.nets.specs.Tries.{Trie, list_of, trie_of}
use Rattle.nodes.specs.Words.{put}
use Rattle.nodes.specs.declared.seats.Seat.{Seat}
use Rattle.ranges.specs.Addresses.{address_of}
use Rattle.pool_state.specs.Kept.{first, second, held_l}
use Rattle.pool_state.specs.States.{State, room_of, admits}
use Rattle.pool_state.specs.Decode.{base, sound, decode, form_in}
use Rattle.pool_state.specs.Changes.{set_at, list_at, Relisted}
use Rattle.pool_state.specs.Steps.{Surveyed, behind_at, stride_in, spot_in, enc_in}
use Rattle.pool_state.specs.declared.Survey.{Survey}
use Rattle.setfile_format.specs.Files.{file, read_file}
use Rattle.trie_pour.specs.Pour.{pour_t}
use Rattle.setfile_pour.specs.Pouring as tries
use Rattle.kept_pour.specs.Pouring as kept
use Rattle.change_many.specs.Calls.{poured_l, file_rules, span_rules}
use Rattle.change_many.specs.declared.Span.{Span}
use Rattle.nets.specs.declared.Refusal.{Refusal}

pub record FileReady (w : List ℕ) (k : ℕ) (d : List ℕ) (v : Survey) (f : ℕ) : Type 0 where
  pub surveyed : Surveyed w k v
  pub list : List Bits
  pub reads : read_file d ≡ file f list
  pub family : f ≡ get_or w 1 0

abbrev pub AsksFile : List ℕ → ℕ → List ℕ → Result (Survey × ℕ) Refusal → Type 0
AsksFile w k d (Ok (v, f)) = FileReady w k d v f
AsksFile w k d (Err x) = (g : State → List Bits) → Relisted w k (file_rules (read_file d)) g (number x, 0) w

pub record SpanReady (w : List ℕ) (k : ℕ) (s : Span) (v : Survey) : Type 0 where
  pub surveyed : Surveyed w k v
  pub right : (S : State) → decode w ≡ sound S → first_no (span_rules s S) ≡ 0
  pub family : s.family ≡ get_or w 1 0
  pub is_family : is_family s.family ≡ true
  pub order : address_of s.first ≤ address_of s.last
  pub high : address_of s.last < 2 ^ width s.family

abbrev pub AsksSpan : List ℕ → ℕ → Span → Result Survey Refusal → Type 0
AsksSpan w k s (Ok v) = SpanReady w k s v
AsksSpan w k s (Err x) = (g : State → List Bits) → Relisted w k (span_rules s) g (number x, 0) w

pub record Pourable (w : List ℕ) (k : ℕ) (v : Survey) (d : List ℕ) (f : ℕ) (x : Bool) (a : State → List Rule) (g : State → List Bits) : Type 0 where
  pub surveyed : Surveyed w k v
  pub list : List Bits
  pub reads : read_file d ≡ file f list
  pub family : f ≡ get_or w 1 0
  pub right : (S : State) → decode w ≡ sound S → first_no (a S) ≡ 0
  pub result : (S : State) → decode w ≡ sound S → g S ≡ poured_l x (list_at S k) list

abbrev pub Clear : List ℕ → ℕ → (State → List Bits) → Bool → Type 0
Clear w k g c = (S : State) → decode w ≡ sound S → admits S.family (set_at S k) (g S) ≡ c

-- the trie t stands in the seat s, and the bytes d are the file of the list l, as the pour of the pool's form asks it;  PoursIn: and there is room for the result up to node g
pub record SourcesIn (w : List ℕ) (s : Seat) (d : List ℕ) (f : ℕ) (l : List Bits) (t : Trie) : Type 0 where
  pub long : 64 ≤ length w
  pub first : form_in w ≡ first → tries.Sources w s.base s.first s.end d f l t
  pub second : form_in w ≡ second → kept.Sources f w s.base (get_or w 3 0) s.first s.end d l t

pub record PoursIn (w : List ℕ) (s : Seat) (g : ℕ) (d : List ℕ) (f : ℕ) (x : Bool) (l : List Bits) (t : Trie) : Type 0 where
  pub long : 64 ≤ length w
  pub first : form_in w ≡ first → tries.Pours w s.base s.first s.end g d f x l t
  pub second : form_in w ≡ second → kept.Pours f w s.base (get_or w 3 0) s.first s.end g d x l t

-- the list of the result
abbrev pub poured_of : Bool → List Bits → Trie → List Bits
poured_of x l t = list_of (pour_t x (trie_of l) t)

-- writing a result of n nodes that the room takes
pub record PourFits (w : List ℕ) (k : ℕ) (v : Survey) (d : List ℕ) (f : ℕ) (x : Bool) (n : ℕ) (S : State) (l : List Bits) : Type 0 where
  pub surveyed : Surveyed w k v
  pub decoded : decode w ≡ sound S
  pub reads : read_file d ≡ file f l
  pub family : f ≡ get_or w 1 0
  pub size : n ≡ held_l (form_in w) (poured_of x l (trie_of (list_at S k)))
  pub fits : n ≤ room_of S k

-- the list m in the place of the surveyed set, and the sets behind it behind it
abbrev pub with_poured : List ℕ → Survey → List Bits → List ℕ
with_poured w v m = put w (spot_in w v.at) (enc_in w m ++ behind_at (stride_in w) w (base (get_or w 2 0)) v)
