-- A file poured into a trie: where the passes begin, and what is left of what they write: the last one writes over all of it. Assumes nothing.
use mathlib.Core.Bool.{Bool}
use mathlib.Core.List.{List, [], ◌∷◌, append-nil}
use mathlib.Core.Path.{◌≡◌, refl, ap, sym, ◌∙◌}
use Prim.Native.Nat.{ℕ, zero, suc, ◌+◌, ◌-◌, ◌*◌, ◌≤◌, ◌<◌}
use native.Mathlib.Omega.{arith}
use lib.ListN.{length}
use Rattle.nets.specs.Bits.{Bits}
use Rattle.nets.specs.Networks.{width}
use Rattle.nets.specs.Tries.{Trie, size, levels, trie_of}
use Rattle.nets.proofs.Numbers.{width-le}
use Rattle.nets.proofs.TrieOf.{levels-trie_of, is_list-within}
use Rattle.nodes.specs.Words.{put, place, enc}
use Rattle.nodes.specs.Segments.{Segment}
use Rattle.nodes.proofs.Put.{length-put}
use Rattle.nodes.proofs.Has.{put_has}
use Rattle.nodes.proofs.Tries.{length-enc}
use Rattle.address_order.proofs.Streams.{nodes-order}
use Rattle.setfile_format.specs.Files.{read_file, file}
use Rattle.setfile_format.proofs.RoundTrip.{read_file-is}
use Rattle.setfile_format.proofs.Reading.{nodes-few}
use Rattle.setfile_build.proofs.Filling.{file-size}
use Rattle.trie_pour.specs.Pour.{pour_t, cut_t}
use Rattle.trie_pour.specs.Parts.{standing, TrieWritten, Keeps}
use Rattle.trie_pour.proofs.Pour.{cut-size, cut-pour-size, pour-cut}
use Rattle.trie_pour.proofs.Parts.{words}
use Rattle.setfile_below.specs.declared.Below.{Below}
use Rattle.setfile_below.specs.Stream.{At}
use Rattle.setfile_passes.specs.Passing.{Counts, Cuts}
use Rattle.setfile_pour.specs.Pouring.{Sources, Pours, Writes}

-- What is written over wholly is as if it had not been written.
pub put-inside : (w : List ℕ) (p q : ℕ) (xs ys : List ℕ) → p ≤ q → q + length ys ≤ p + length xs → put (put w q ys) p xs ≡ put w p xs
unfolding put
put-inside [] p q xs ys h k = refl
put-inside (y ∷ w) zero zero xs [] h k = refl
put-inside (y ∷ w) zero zero [] (b ∷ ys) h k = absurd (omega arith)
put-inside (y ∷ w) zero zero (a ∷ xs) (b ∷ ys) h k = ap (λ z. a ∷ z) (put-inside w zero zero xs ys h (omega arith))
put-inside (y ∷ w) zero (suc q) [] ys h k = absurd (omega arith)
put-inside (y ∷ w) zero (suc q) (a ∷ xs) ys h k = ap (λ z. a ∷ z) (put-inside w zero q xs ys (omega arith) (omega arith))
put-inside (y ∷ w) (suc p) zero xs ys h k = absurd (omega arith)
put-inside (y ∷ w) (suc p) (suc q) xs ys h k = ap (λ z. y ∷ z) (put-inside w p q xs ys (omega arith) (omega arith))

-- The trie of a file has few nodes, and is no deeper than its networks are long.
module _ (d : List ℕ) (f : ℕ) (l : List Bits) (e : read_file d ≡ file f l) where
  file-few : size (trie_of l) ≤ 536870913
  file-few =
      let o = read_file-is d f l e in
      let h = rw o.networks at (nodes-few f d (length l) o.few) in
      omega (arith, file-size d e, nodes-order (width f) l o.list)

  file-deep : levels (trie_of l) ≤ 129
  file-deep = omega (arith, levels-trie_of (width f) l (is_list-within (width f) l (read_file-is d f l e).list), width-le f)

-- Where the passes begin.
module _ {w : List ℕ} {b i e : ℕ} {d : List ℕ} {f : ℕ} {l : List Bits} {t : Trie} (g : Sources w b i e d f l t) where
  few-all : size t + 2 * size (trie_of l) < 4611686018427387904
  few-all = omega (arith, file-few d f l g.reads, g.here.end, g.here.few)

  module _ {c : List ℕ} {s : Below} (a : At d c s [] [] (trie_of l) []) where
    pub count-start : Counts w b i e d c s [] [] (trie_of l) [] t
    count-start = record { part = standing g.here; at = a; few = few-all }

    pub cut-start : Cuts w b i e i d c s [] [] (trie_of l) [] t
    cut-start = record { here = g.here; one = g.here.one; behind = omega arith; at = a; few = few-all }

-- One pass behind the other.
module _ {w : List ℕ} {b i e g : ℕ} {d : List ℕ} {f : ℕ} {x : Bool} {l : List Bits} {t : Trie} (p : Pours w b i e g d f x l t) {w₁ : List ℕ} {m : ℕ}
    (k : TrieWritten w w₁ b i m (cut_t x (trie_of l) t)) where
  abbrev rest : Trie
  rest = cut_t x (trie_of l) t

  abbrev result : Trie
  result = pour_t x (trie_of l) t

  abbrev here : Segment w b i e e t []
  here = p.source.here

  less : size rest ≤ size result
  less = cut-pour-size x (trie_of l) t

  pub rest-fits : (i ≤ m) × (m - i ≤ g) × (m < 1073741824)
  rest-fits = (omega (arith, k.end), omega (arith, k.end, less, p.end), omega (arith, k.end, less, p.end, p.few))

  long₁ : length w₁ ≡ length w
  long₁ = rw k.wrote (length-put w (place b i) (enc rest))

  -- the rest of the trie stands where the trie stood
  stands₁ : Segment w₁ b i m m rest []
  stands₁ = record {
    has = rw (k.wrote, append-nil (enc rest)) (put_has w (place b i) (enc rest) (omega (arith, length-enc rest, cut-size x (trie_of l) t, (words here).fits, length-enc t)));
    one = here.one;
    end = k.end;
    used = omega arith;
    few = rest-fits.2;
    low = here.low;
  }

  module _ (a : ℕ) (at : a ≡ g - (m - i)) where
    end_is : a + size rest ≡ g
    end_is = omega (arith, k.end, less, p.end)

    before : i ≤ a
    before = omega (arith, k.end, less, p.end)

    pub slide : Keeps w₁ b i m a rest
    slide = record {
      part = standing stands₁;
      room = record {
        one = omega (arith, before, here.one);
        few = omega (arith, end_is, p.few);
        fits = λ z. (omega (arith, end_is, long₁, p.room), omega (arith, end_is, p.few));
      };
    }

    -- and then behind the place of the result
    module _ {w₂ : List ℕ} {r : ℕ} (h : TrieWritten w₁ w₂ b a r rest) where
      long₂ : length w₂ ≡ length w
      long₂ = rw h.wrote (length-put w₁ (place b a) (enc rest)) ∙ long₁

      stands₂ : Segment w₂ b a g g rest []
      stands₂ = record {
        has = rw (h.wrote, append-nil (enc rest)) (put_has w₁ (place b a) (enc rest) (omega (arith, length-enc rest, end_is, before, here.one, long₁, p.room)));
        one = omega (arith, before, here.one);
        end = sym end_is;
        used = omega arith;
        few = p.few;
        low = here.low;
      }

      same : size (pour_t x (trie_of l) rest) ≡ size result
      same = ap size (pour-cut x (trie_of l) t)

      pub writes : Writes w₂ b a g i d f x l rest
      writes = record {
        reads = p.source.reads;
        fills = record {
          part = standing stands₂;
          room = record {
            one = here.one;
            few = omega (arith, p.end, p.few);
            fits = λ z. (omega (arith, same, p.end, long₂, p.room), omega (arith, same, p.end, p.few));
          };
          low = omega (arith, file-deep d f l p.source.reads, p.end, p.few);
          ahead = λ z. omega (arith, same, p.end);
          from = t;
          cut = λ z. refl;
        };
      }

      pub poured : {w₃ : List ℕ} → w₃ ≡ put w₂ (place b i) (enc (pour_t x (trie_of l) rest)) → w₃ ≡ put w (place b i) (enc result)
      poured v =
          let one = here.one in
          v ∙ rw (pour-cut x (trie_of l) t, h.wrote, put-inside w₁ (place b i) (place b a) (enc result) (enc rest) (omega (arith, before)) (omega (arith, length-enc rest, length-enc result, end_is, p.end, before)), k.wrote)
          (put-inside w (place b i) (place b i) (enc result) (enc rest) (omega arith) (omega (arith, length-enc rest, length-enc result, less)))
