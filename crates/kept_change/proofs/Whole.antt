-- Down the bits of the network and back: what each plan asks of what does it, and that it makes of the trie what the change does. Assumes nothing.
use mathlib.Core.Bool.{Bool, true, false}
use mathlib.Core.List.{List, [], ◌∷◌, ◌++◌, append_assoc}
use mathlib.Core.Path.{◌≡◌, sym, ap, ◌∙◌}
use Prim.Native.Nat.{ℕ, suc, ◌+◌, ◌-◌, ◌*◌, ◌≤◌, ◌<◌}
use native.Mathlib.Omega.{arith}
use lib.ListN.{length, length-append}
use Rattle.nets.specs.Bits.{Bits}
use Rattle.nets.specs.Networks.{width, net_from}
use Rattle.nets.specs.declared.Net.{Net}
use Rattle.nets.specs.Tries.{Trie, none, leaf, size, side, insert_t}
use Rattle.nets.specs.TrieOps.{remove_t}
use Rattle.nets.proofs.Numbers.{width-le}
use Rattle.nodes.proofs.Has.{has_same}
use Rattle.nodes.proofs.Put.{length-put}
use Rattle.nodes.proofs.Tries.{some}
use Rattle.trie_paths.specs.Spans.{snoc}
use Rattle.branch_points.specs.KeptTries.{kept_size}
use Rattle.trie_insert.proofs.Insertion.{size-insert}
use Rattle.trie_remove.proofs.Remains.{size-remove_t}
use Rattle.branch_points.proofs.Sizes.{kept_size-some, size-deep}
use Rattle.branch_points.proofs.Counts.{kept_size-le}
use Rattle.kept_nodes.specs.Words.{kept_enc, spot}
use Rattle.kept_nodes.proofs.Places.{spot-within}
use Rattle.kept_steps.specs.Segments.{KeptSegment, KeptSpliced, own_size}
use Rattle.kept_steps.proofs.Halves.{behind, size_is}
use Rattle.kept_plan.specs.Change.{change_t, Way, flat_words, Flattened, Forks, Drops, Downs, Changes}
use Rattle.kept_acts.specs.Acts.{Acts, Halves, Became, fork_words, drop_words, drop_size, flat_size, relink_end, relinked, Relinks}
use Rattle.kept_plan.proofs.Plans.{way-len}
use Rattle.kept_change.proofs.Results.{fork-size, fork-words, drop-both, drop-size, drop-words, half, made, half-here, down-size, down-spliced}
use Rattle.kept_blocks.proofs.Remaining.{remain-size}

-- What was written is the trie.
pub became-spliced : {f : ℕ} {w v : List ℕ} {b i r : ℕ} {ws : List ℕ} {m : ℕ} {rest : List ℕ} (p : Bits) (t : Trie) → kept_enc f p t ≡ ws → kept_size t ≡ m → Became f w v b i r ws m rest
    → KeptSpliced f w v b i r p t rest
became-spliced p t e s g = record { wrote = rw e g.wrote; end = rw s g.end }

pub way-path : {f : ℕ} {p r : Bits} {q : Net} → Way f p r q → length p ≤ width f
way-path {p = p} {r = r} h = omega (arith, h.short, length-append p r)

-- The sizes.
pub size-stay : {f : ℕ} {w : List ℕ} {b n i e u : ℕ} {p : Bits} {t : Trie} {rest : List ℕ} (x : Bool) (r : Bits) → KeptSegment f w b n i e u p t rest → change_t x r t ≡ t → e - i ≡ kept_size (change_t x r t)
size-stay x r g h = rw h (omega (arith, g.end))

module _ {f : ℕ} {w : List ℕ} {b n i e u : ℕ} {p r : Bits} {t : Trie} {rest : List ℕ} (g : KeptSegment f w b n i e u p t rest) where
  pub size-halve : {q : Net} {d : ℕ} → Way f p r q → length p ≡ d → (t ≡ leaf) × (r ≡ [] → ⊥) → (d < q.len) × (q.len ≤ 128) × (2 * (q.len - d) - 1 ≡ kept_size (remove_t r t))
  size-halve {q} {d} h l k =
      let y = way-len h in
      let z = remain-size r k.1 in
      (omega arith, omega (arith, h.short, length-append p r, width-le f), rw k.0 (omega arith))

  pub size-fork : {c : Bool} → Forks i c r t → e - i + 2 ≡ kept_size (insert_t r t)
  size-fork k = omega (arith, g.end, fork-size f p k)

  module _ {c : Bool} {m : ℕ} (k : Drops i c m r t) where
    pub drop-fits : (i + 1 ≤ m) × (m ≤ e)
    drop-fits = let o = k.inside.branch in let s = size_is g o in (omega (arith, o.middle), omega (arith, o.begins, o.middle, g.end))

    pub size-drop : side c (m - (i + 1)) (e - m) ≡ kept_size (remove_t r t)
    size-drop = rw (drop-size f p k) (go c)
      where
        go : (c : Bool) → side c (m - (i + 1)) (e - m) ≡ drop_size c k.inside.branch.l k.inside.branch.r
        go true = let o = k.inside.branch in omega (arith, o.begins, o.middle, size_is g o, g.end)
        go false = let o = k.inside.branch in omega (arith, o.middle)

  module _ {c : Bool} {a m : ℕ} {x : Bool} (k : Downs i a m c r x t) where
    pub down-half : (side c m a ≤ side c e m) × (side c e m - side c m a ≡ kept_size (half g k)) × (kept_size (half g k) ≤ e - i) × (e ≤ suc n) × (i ≤ e)
    down-half =
        let h = half-here g k in
        let o = k.inside.branch in
        (omega (arith, h.end), omega (arith, h.end), smaller c o.l o.r (size_is g o), omega (arith, g.tail, g.last), omega (arith, g.end))
      where
        smaller : (c : Bool) (l r : Trie) → kept_size t ≡ own_size l r + kept_size l + kept_size r → kept_size (side c l r) ≤ e - i
        smaller false l r q = omega (arith, g.end)
        smaller true l r q = omega (arith, g.end)

    pub down-path : {q : Net} → Way f p r q → Way f (snoc p c) k.inside.later q
    down-path h = record { family = h.family; net = h.net ∙ ap (net_from f) joined; short = rw (← joined) h.short }
      where
        joined : p ++ r ≡ snoc p c ++ k.inside.later
        joined = ap (λ l. p ++ l) k.inside.bits ∙ sym (append_assoc p (c ∷ []) k.inside.later)

    pub down-short : {q : Net} → Way f p r q → length p < width f
    down-short h = omega (arith, h.short, length-append p r, ap length k.inside.bits)

    -- fewer bits are left
    pub down-falls : {q : Net} → Way f p r q → (d : ℕ) → length p ≡ d → (d < q.len) × (d + 1 ≤ 128)
    down-falls h d e = let y = way-len h in (omega (arith, ap length k.inside.bits), omega (arith, down-short h, width-le f))

    pub size-down : (y z : ℕ) → y ≡ kept_size (made g k) → z ≡ kept_size (half g k) → y + (e - i) - z ≡ kept_size (change_t x r t)
    size-down y z ey ez = let s = down-size g k in let d = down-half in omega (arith, g.end)

-- a change makes at most twice as many nodes more as there are bits
pub made-le : (x : Bool) (r : Bits) (t : Trie) → size (change_t x r t) ≤ size t + 2 * length r + 1
made-le true r t = omega (arith, size-insert r t)
made-le false r t = omega (arith, size-remove_t r t)

module _ {f : ℕ} {w : List ℕ} {b n i e u : ℕ} {p r : Bits} {q : Net} {t : Trie} {rest : List ℕ} (g : KeptSegment f w b n i e u p t rest) (h : Way f p r q) where
  pub made-few : {c : Bool} {a m : ℕ} {x : Bool} (k : Downs i a m c r x t) → kept_size (made g k) < 1073741824
  made-few {c = c} {x = x} k =
      let o = half-here g k in
      let v = down-path g k h in
      omega (
        arith,
        kept_size-le (made g k),
        made-le x k.inside.later (half g k),
        size-deep (half g k) 129 (omega (arith, o.deep, width-le f)),
        v.short,
        length-append (snoc p c) k.inside.later,
        width-le f,
        o.end,
        o.tail,
        o.last,
        o.room.few,
      )

-- By the code's numbers.
pub segment-at : {f : ℕ} {w : List ℕ} {b n i e i' e' u : ℕ} {p : Bits} {t : Trie} {rest : List ℕ} → i' ≡ i → e' ≡ e → KeptSegment f w b n i e u p t rest → KeptSegment f w b n i' e' u p t rest
segment-at ei ee g = rw (ei, ee) g

pub changes-at : {f : ℕ} {w : List ℕ} {b n i e i' e' u : ℕ} {p r : Bits} {q : Net} {x : Bool} {t : Trie} {rest : List ℕ} → i' ≡ i → e' ≡ e → Changes f w b n i e u p r q x t rest
    → Changes f w b n i' e' u p r q x t rest
changes-at ei ee g = rw (ei, ee) g

pub spliced-at : {f : ℕ} {w v : List ℕ} {b i i' z : ℕ} {p : Bits} {t : Trie} {rest : List ℕ} → i' ≡ i → KeptSpliced f w v b i' z p t rest → KeptSpliced f w v b i z p t rest
spliced-at e g = rw e at g

-- The words.
module _ {f : ℕ} {w : List ℕ} {b n i e u : ℕ} {p r : Bits} {q : Net} {x : Bool} {t : Trie} {rest : List ℕ} (g : Changes f w b n i e u p r q x t rest) where
  pub stay-spliced : change_t x r t ≡ t → KeptSpliced f w w b i e p (change_t x r t) rest
  stay-spliced h = rw h (record { wrote = sym (has_same g.here.has); end = g.here.end })

  acts : (m : ℕ) → kept_size (change_t x r t) ≡ m → Acts f w b n i e u p (p ++ r) t rest m
  acts m h = record { here = g.here; short = way-path g.way; long = g.way.short; fits = rw (← h) g.fits }

  pub flat-acts : Flattened f p r x t → Acts f w b n i e u p (p ++ r) t rest (flat_size x)
  flat-acts h = acts (flat_size x) h.size

  pub flat-spliced : (h : Flattened f p r x t) {v : List ℕ} {z : ℕ} → Became f w v b i z (flat_words x f (p ++ r)) (flat_size x) rest → KeptSpliced f w v b i z p (change_t x r t) rest
  flat-spliced h = became-spliced p (change_t x r t) h.words h.size

  halved_is : (t ≡ leaf) × (x ≡ false) × (r ≡ [] → ⊥) → change_t x r t ≡ remove_t r leaf
  halved_is k = rw (k.1, k.0)

  pub halve-acts : (t ≡ leaf) × (x ≡ false) × (r ≡ [] → ⊥) → Acts f w b n i e u p (p ++ r) t rest (kept_size (remove_t r leaf))
  halve-acts k = acts (kept_size (remove_t r leaf)) (ap kept_size (halved_is k))

  pub halve-spliced : (t ≡ leaf) × (x ≡ false) × (r ≡ [] → ⊥) → {v : List ℕ} {z : ℕ} → Became f w v b i z (kept_enc f p (remove_t r leaf)) (kept_size (remove_t r leaf)) rest
      → KeptSpliced f w v b i z p (change_t x r t) rest
  halve-spliced k = became-spliced p (change_t x r t) (ap (kept_enc f p) (halved_is k)) (ap kept_size (halved_is k))

  module _ {c : Bool} (k : (x ≡ true) × Forks i c r t) where
    into-is : change_t x r t ≡ insert_t r t
    into-is = rw k.0

    pub fork-acts : Acts f w b n i e u p (p ++ r) t rest (kept_size t + 2)
    fork-acts = acts (kept_size t + 2) (ap kept_size into-is ∙ fork-size f p k.1)

    pub fork-spliced : {v : List ℕ} {z : ℕ} → Became f w v b i z (fork_words c f p (p ++ r) t) (kept_size t + 2) rest → KeptSpliced f w v b i z p (change_t x r t) rest
    fork-spliced = became-spliced p (change_t x r t) (ap (kept_enc f p) into-is ∙ fork-words f p k.1) (ap kept_size into-is ∙ fork-size f p k.1)

  module _ {c : Bool} {m : ℕ} (k : (x ≡ false) × Drops i c m r t) where
    abbrev pub first_half : Trie
    first_half = k.1.inside.branch.l

    abbrev pub second_half : Trie
    second_half = k.1.inside.branch.r

    pub drop-halves : Halves f w b n i m e u p first_half second_half rest
    drop-halves =
        let o = k.1.inside.branch in
        let d = drop-both f p k.1 in
        record { here = rw o.is at g.here; first = d.0; second = d.1; middle = o.middle }

    out-is : change_t x r t ≡ remove_t r t
    out-is = rw k.0

    pub drop-spliced : {v : List ℕ} {z : ℕ} → Became f w v b i z (drop_words c f p first_half second_half) (drop_size c first_half second_half) rest → KeptSpliced f w v b i z p (change_t x r t) rest
    drop-spliced = became-spliced p (change_t x r t) (ap (kept_enc f p) out-is ∙ drop-words f p k.1) (ap kept_size out-is ∙ drop-size f p k.1)

  module _ {c : Bool} {a m : ℕ} (k : Downs i a m c r x t) where
    pub down-changes : Changes f w b n (side c m a) (side c e m) u (snoc p c) k.inside.later q x (half g.here k) (behind g.here k.inside.branch c)
    down-changes = record { here = half-here g.here k; way = down-path g.here k g.way; fits = omega (arith, g.fits, down-size g.here k) }

    module _ {v : List ℕ} {z : ℕ} (h : KeptSpliced f w v b (side c m a) z (snoc p c) (made g.here k) (behind g.here k.inside.branch c)) where
      pub down-relinks : Relinks f v b i a m e z c
      down-relinks =
          let o = k.inside.branch in
          let s = size_is g.here o in
          let d = half-here g.here k in
          let y = down-size g.here k in
          let few = g.here.room.few in
          let len : length v ≡ length w = rw h.wrote (length-put w (spot f b (side c m a)) _) in
          record {
            one = g.here.one;
            fits = λ _. rw len (spot-within i g.here.room g.here.one (omega (arith, g.here.end, g.here.tail, g.here.last, kept_size-some t solid)));
            low = omega (arith, g.here.room.low);
            order = (
              omega (arith, h.end, starts c),
              omega (arith, g.here.end, o.begins, o.middle),
              omega (arith, g.here.tail, g.here.last),
              omega (arith, h.end, d.end, d.tail, g.fits),
            );
          }
        where
          solid : t ≡ none → ⊥
          solid e = some k.inside.branch.l k.inside.branch.r (sym k.inside.branch.is ∙ e)

          starts : (c : Bool) → i ≤ side c m a
          starts true = omega (arith, k.inside.branch.begins)
          starts false = omega (arith, k.inside.branch.begins, k.inside.branch.middle)

      pub down-done : {v₂ : List ℕ} {y : ℕ} → y ≡ relink_end c a i m e z → v₂ ≡ relinked f v b i a z c p → KeptSpliced f w v₂ b i y p (change_t x r t) rest
      down-done ey h₂ = rw ey (down-spliced g.here k h h₂)
