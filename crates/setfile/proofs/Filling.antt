-- The list of a file in a pool of either form: the nodes that it takes, the gap that is left for it once the sets behind have moved, and what filling it writes. Assumes nothing.
use mathlib.Core.Bool.{Bool, true, false}
use mathlib.Core.List.{List, []}
use mathlib.Core.Path.{◌≡◌, refl, sym, ap, ◌∙◌}
use Prim.Native.Nat.{ℕ, ◌+◌, ◌-◌, ◌*◌, ◌≤◌, ◌<◌}
use native.Mathlib.Omega.{arith}
use lib.ListN.{length, get_or}
use Rattle.nets.specs.Bits.{Bits}
use Rattle.nets.specs.Lists.{nodes_l}
use Rattle.nets.specs.Networks.{width}
use Rattle.nets.specs.Tries.{trie_of}
use Rattle.nodes.specs.Words.{put, place, enc}
use Rattle.nodes.proofs.Put.{length-put, get_or-put-before}
use Rattle.branch_points.specs.BranchPoints.{kept_nodes_l}
use Rattle.branch_points.proofs.Counts.{kept_nodes_l-twice}
use Rattle.kept_nodes.specs.Words.{spot, kept_enc}
use Rattle.pool_state.specs.Kept.{Form, first, second, form_of, same_form, held_l, enc_l, spot_l}
use Rattle.pool_state.specs.Decode.{base, form_in}
use Rattle.pool_state.specs.Steps.{spot_by, behind_at, Shiftable, stride_in, spot_in, enc_in}
use Rattle.pool_state.specs.declared.Survey.{Survey}
use Rattle.pool_state.proofs.Kept.{held_l-is, enc_l-trie, spot_l-first, spot_l-second, spot_l-end, is-first, is-second}
use Rattle.setfile_format.specs.Files.{file, read_file, head_number, file_bytes}
use Rattle.setfile_format.proofs.RoundTrip.{read_file-is}
use Rattle.setfile_build.specs.Building as build
use Rattle.kept_build.specs.Building as kept
use Rattle.setfile.specs.LoadSteps.{FileFits, moved, with_file, FileGap}

-- The nodes and the words of a list in the second form.
held_kept : (l : List Bits) → held_l second l ≡ kept_nodes_l l
unfolding held_l
held_kept l = refl

enc_l-kept : (f : ℕ) (l : List Bits) → enc_l second f l ≡ kept_enc f [] (trie_of l)
unfolding enc_l
enc_l-kept f l = refl

-- What the list of a file takes.
module _ (d : List ℕ) {f : ℕ} {l : List Bits} (reads : read_file d ≡ file f l) where
  pub count-there : (1 < 4) × (4 * 1 + 4 ≤ length d)
  unfolding file_bytes
  count-there = (omega arith, omega (arith, (read_file-is d f l reads).long))

  module _ {m : ℕ} (c : m ≡ head_number d 1) where
    networks : m ≡ length l
    networks = c ∙ (read_file-is d f l reads).numbers.1

    pub count-few : m ≤ 4194304
    count-few = omega (arith, networks, (read_file-is d f l reads).few)

    module _ (w : List ℕ) {r : Bool} (e : r ≡ same_form (form_in w) first) (q : r ≡ false) where
      pub takes-second : {n : ℕ} → n ≡ 2 * m - 1 → n ≡ held_l (form_in w) l
      takes-second {n} z =
          let k : n ≡ kept_nodes_l l = omega (arith, networks, kept_nodes_l-twice (width f) l (read_file-is d f l reads).list) in
          k ∙ sym (ap (λ F. held_l F l) (is-second (form_in w) e q) ∙ held_kept l)

pub takes_first : (w : List ℕ) {r : Bool} → r ≡ same_form (form_in w) first → r ≡ true → {n : ℕ} (l : List Bits) → n ≡ nodes_l l → n ≡ held_l (form_in w) l
takes_first w e q {n} l z = z ∙ sym (ap (λ F. held_l F l) (is-first (form_in w) e q) ∙ held_l-is l)

-- The gap is filled, by the form.
module _ {w : List ℕ} {b i n : ℕ} {d : List ℕ} {f : ℕ} {l : List Bits} (g : FileGap w b i n d f l) {r : Bool} (e : r ≡ same_form (form_in w) first) where
  abbrev filled_in : Form → List ℕ
  filled_in F = put w (spot_l F f b i) (enc_l F f l)

  pub fill-first : r ≡ true → build.Fillable w b i d f l
  fill-first q = g.first (is-first (form_in w) e q)

  pub fill-second : r ≡ false → kept.Fillable f w b (i + n) d l
  fill-second q = g.second (is-second (form_in w) e q)

  pub filled-first : r ≡ true → {y : List ℕ} → y ≡ put w (place b i) (enc (trie_of l)) → y ≡ filled_in (form_in w)
  filled-first q z =
      z ∙ sym (ap filled_in (is-first (form_in w) e q) ∙ ap (λ p. put w p (enc_l first f l)) (spot_l-first f b i) ∙ ap (put w (place b i)) (enc_l-trie f l))

  pub filled-second : r ≡ false → {y : List ℕ} → y ≡ put w (spot f b (i + n - kept_nodes_l l)) (kept_enc f [] (trie_of l)) → y ≡ filled_in (form_in w)
  filled-second q z =
      let F = is-second (form_in w) e q in
      let m : kept_nodes_l l ≡ n = sym (held_kept l) ∙ ap (λ G. held_l G l) (sym F) ∙ g.nodes in
      let j : i + n - kept_nodes_l l ≡ i = omega (arith, m) in
      z ∙ ap (λ x. put w (spot f b x) (kept_enc f [] (trie_of l))) j
      ∙ sym (ap filled_in F ∙ ap (λ p. put w p (enc_l second f l)) (spot_l-second f b i) ∙ ap (put w (spot f b i)) (enc_l-kept f l))

-- The sets behind move by the stride of the pool.
pub write_moves : {w : List ℕ} {v : Survey} {d : List ℕ} {f n : ℕ} {l : List Bits} → FileFits w v d f n l → {s : ℕ} → s ≡ stride_in w → Shiftable s w (base (get_or w 2 0)) v n
write_moves g o = rw o g.gap

-- The gap, once the sets behind have moved.
module _ {w : List ℕ} {v : Survey} {d : List ℕ} {f n : ℕ} {l : List Bits} (g : FileFits w v d f n l) {s : ℕ} (o : s ≡ stride_in w) {z : List ℕ} (i : z ≡ moved w s v n) where
  abbrev b : ℕ
  b = base (get_or w 2 0)

  e : z ≡ moved w (stride_in w) v n
  e = i ∙ ap (λ t. moved w t v n) o

  opened : length z ≡ length w
  opened = ap length e ∙ length-put w (spot_by (stride_in w) b (v.at + n)) (behind_at (stride_in w) w b v)

  form-stays : form_in z ≡ form_in w
  form-stays = ap (λ x. form_of (get_or x 5 0)) e ∙ ap form_of (get_or-put-before w (spot_by (stride_in w) b (v.at + n)) (behind_at (stride_in w) w b v) 5 (omega arith))

  pub write-gap : FileGap z b v.at n d f l
  write-gap = record {
    nodes = ap (λ F. held_l F l) form-stays ∙ g.nodes;
    first = λ q.
        let m : nodes_l l ≡ n = sym (held_l-is l) ∙ ap (λ F. held_l F l) (sym q ∙ form-stays) ∙ g.nodes in
        record {
          reads = g.reads;
          one = g.gap.first;
          few = omega (arith, m, g.within, g.rooms.few);
          room = omega (arith, m, opened, g.within, g.rooms.long, g.gap.first);
        };
    second = λ q.
        let m : kept_nodes_l l ≡ n = sym (held_kept l) ∙ ap (λ F. held_l F l) (sym q ∙ form-stays) ∙ g.nodes in
        record {
          reads = g.reads;
          room = record {
            family = rw g.family g.rooms.family;
            low = g.rooms.low;
            few = omega (arith, g.within, g.rooms.few);
            long = rw (opened, g.family) (rw (spot_l-second (get_or w 1 0) b (v.at + n)) at (spot_l-end second g.rooms (v.at + n) g.within));
            fits = omega (arith, m, g.gap.first);
          };
        };
  }

  pub write-wrote : {y : List ℕ} → y ≡ put z (spot_l (form_in z) f b v.at) (enc_l (form_in z) f l) → y ≡ with_file w v n l
  write-wrote q =
      q ∙ ap (λ F. put z (spot_l F f b v.at) (enc_l F f l)) form-stays
      ∙ ap (λ x. put z (spot_l (form_in w) x b v.at) (enc_l (form_in w) x l)) g.family
      ∙ ap (λ x. put x (spot_in w v.at) (enc_in w l)) e
