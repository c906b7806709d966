-- The steps of a load: what they ask, and what they leave.
--
--   Ready w k d v f n    a load can go on: v is what a pass over the pool found for its empty set, and d is the file of a list that takes n nodes in the pool's form, of its family f;  Asks: that, or its refusal
--   Admits w k d f c     c says whether set k may have the list of the file d of the pool's family f, as far as its mark goes
--   FileFits             what writing the file's list asks
--   with_file             the words that it leaves
--   FileGap              what it asks once the sets behind have moved
use Rattle.std.specs.Prelude.{Bool, List, ◌≡◌, ℕ, suc, ◌+◌, ◌≤◌, length, get_or, Result, Ok, Err}
use Rattle.nets.specs.Bits.{Bits}
use Rattle.nets.specs.Refusals.{number}
use Rattle.nodes.specs.Words.{put}
use Rattle.pool_state.specs.Kept.{first, second, held_l, RoomL}
use Rattle.pool_state.specs.States.{State, admits}
use Rattle.pool_state.specs.Decode.{base, sound, decode, form_in}
use Rattle.pool_state.specs.Changes.{set_at}
use Rattle.pool_state.specs.Steps.{Surveyed, spot_by, behind_at, Shiftable, stride_in, spot_in, enc_in}
use Rattle.pool_state.specs.declared.Survey.{Survey}
use Rattle.setfile_format.specs.Files.{file, read_file}
use Rattle.setfile_build.specs.Building as build
use Rattle.kept_build.specs.Building as kept
use Rattle.setfile.specs.Loading.{Loaded}
use Rattle.nets.specs.declared.Refusal.{Refusal}

pub record Ready (w : List ℕ) (k : ℕ) (d : List ℕ) (v : Survey) (f n : ℕ) : Type 0 where
  pub surveyed : Surveyed w k v
  pub empty : v.held ≡ 0
  pub list : List Bits
  pub reads : read_file d ≡ file f list
  pub family : f ≡ get_or w 1 0
  pub nodes : n ≡ held_l (form_in w) list

abbrev pub Asks : List ℕ → ℕ → List ℕ → Result (Survey × ℕ × ℕ) Refusal → Type 0
Asks w k d (Ok (v, f, n)) = Ready w k d v f n
Asks w k d (Err x) = Loaded w k d (number x, 0) w

abbrev pub Admits : List ℕ → ℕ → List ℕ → ℕ → Bool → Type 0
Admits w k d f c = (S : State) (l : List Bits) → decode w ≡ sound S → f ≡ S.family → read_file d ≡ file f l → c ≡ admits S.family (set_at S k) l

-- the bytes are the file of the list l, which takes n nodes in the pool's form, and there is a gap to open for it
pub record FileFits (w : List ℕ) (v : Survey) (d : List ℕ) (f n : ℕ) (l : List Bits) : Type 0 where
  pub reads : read_file d ≡ file f l
  pub nodes : held_l (form_in w) l ≡ n
  pub family : f ≡ get_or w 1 0
  pub rooms : RoomL (get_or w 1 0) w (base (get_or w 2 0)) (get_or w 3 0)
  pub within : v.at + n ≤ suc (get_or w 3 0)
  pub gap : Shiftable (stride_in w) w (base (get_or w 2 0)) v n
  pub sets : get_or w 2 0 ≤ 64
  pub long : 64 ≤ length w

-- the sets behind the gap moved, and the list in it
abbrev pub moved : List ℕ → ℕ → Survey → ℕ → List ℕ
moved w s v n = put w (spot_by s (base (get_or w 2 0)) (v.at + n)) (behind_at s w (base (get_or w 2 0)) v)

abbrev pub with_file : List ℕ → Survey → ℕ → List Bits → List ℕ
with_file w v n l = put (moved w (stride_in w) v n) (spot_in w v.at) (enc_in w l)

-- there is room from node i on for the n nodes of the file's list, in the form that the words say
pub record FileGap (w : List ℕ) (b i n : ℕ) (d : List ℕ) (f : ℕ) (l : List Bits) : Type 0 where
  pub nodes : held_l (form_in w) l ≡ n
  pub first : form_in w ≡ first → build.Fillable w b i d f l
  pub second : form_in w ≡ second → kept.Fillable f w b (i + n) d l
