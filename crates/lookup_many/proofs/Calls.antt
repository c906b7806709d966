-- A law for each return of contains_all, by the tests on the way to it. Assumes nothing.
use mathlib.Core.List.{List}
use mathlib.Core.Path.{◌≡◌, ap, sym, ◌∙◌}
use Prim.Native.Nat.{ℕ, ◌/◌, ◌≤◌, ◌<◌}
use lib.ListN.{length, get_or}
use borrow.Author.Tests.{eq-eqb, ne_eqb, le-ltb, lt-ltb}
use Rattle.nets.specs.Refusals.{number, first_no}
use Rattle.nets.specs.declared.Refusal.{Refusal}
use Rattle.nets.specs.declared.Refusal.TheVariants.{WrongFamily, ShortBuffer}
use Rattle.nets.proofs.Answers.{number-some}
use Rattle.nodes.specs.Words.{put}
use Rattle.lookup.specs.Rules.{on_root, is_member, contains_rule}
use Rattle.lookup.proofs.Asked.{on_root-by, lookup-root}
use Rattle.lookup_many.specs.Rules.{query_at, in_one, answers_of, all_rules, all_no, answers_after, ContainsAll, asked, asked_of}
use Rattle.trie_index.specs.Index.{fill}
use Rattle.trie_index.proofs.Fill.{fill-same}
use Rattle.std.specs.Prelude.{Result, Ok, Err}

module _ (w : List ℕ) (k f : ℕ) (qs v : List ℕ) where
  all-no : (x : Refusal) → all_no w k f qs (length v) ≡ number x → ContainsAll w k f qs v (Err x) v
  unfolding answers_after
  all-no x e = record { answer = ap (λ n. (n, 0)) (sym e); rows = rw (e, ne_eqb (number x) 0 (number-some x)) }

  module _ (a : Result ℕ Refusal) (e : a ≡ on_root w k Err Ok) where
    pub all-refused : (x : Refusal) → a ≡ Err x → ContainsAll w k f qs v (Err x) v
    unfolding all_no
    all-refused x h = all-no x (rw h at (sym (on_root-by w k a e number (λ _. first_no (all_rules (get_or w 1 0) f qs (length v))))))

    module _ (r : ℕ) (h : a ≡ Ok r) where
      by-root : all_no w k f qs (length v) ≡ first_no (all_rules (get_or w 1 0) f qs (length v))
      unfolding all_no
      by-root = rw h at (sym (on_root-by w k a e number (λ _. first_no (all_rules (get_or w 1 0) f qs (length v)))))

      pub all-family : (f ≡ get_or w 1 0 → ⊥) → ContainsAll w k f qs v (Err WrongFamily) v
      all-family ne = all-no WrongFamily (rw (ne_eqb f (get_or w 1 0) ne) at by-root)

      module _ (same : f ≡ get_or w 1 0) where
        pub all_short : length v < length qs / 3 → ContainsAll w k f qs v (Err ShortBuffer) v
        all_short lt = all-no ShortBuffer (rw (eq-eqb f (get_or w 1 0) same, lt-ltb (length v) (length qs / 3) lt) at by-root)

        answers-are : fill (asked_of w k f qs) 0 (length qs / 3) ≡ answers_of w k f qs
        unfolding answers_of asked_of asked contains_rule
        answers-are = fill-same (asked_of w k f qs) (λ i. in_one (contains_rule w k (query_at f qs i)))
            (λ i. ap (λ t. in_one (is_member (query_at f qs i) t)) (lookup-root w k a e r h (query_at f qs i))) (length qs / 3) 0

        pub all-granted : length qs / 3 ≤ length v → {u : List ℕ} → u ≡ put v 0 (fill (asked_of w k f qs) 0 (length qs / 3)) → ContainsAll w k f qs v (Ok 0) u
        unfolding answers_after
        all-granted le d =
            let z = rw (eq-eqb f (get_or w 1 0) same, le-ltb (length v) (length qs / 3) le) at by-root in
            record { answer = ap (λ n. (n, 0)) (sym z); rows = rw z (d ∙ ap (put v 0) answers-are) }
