-- The rule for one of the four numbers of an IPv4 address, as RFC 3986 has it in section 3.2.2:
--
--       dec-octet   = DIGIT                 ; 0-9
--                   / %x31-39 DIGIT         ; 10-99
--                   / "1" 2DIGIT            ; 100-199
--                   / "2" %x30-34 DIGIT     ; 200-249
--                   / "25" %x30-35          ; 250-255
--
--   range a b, byte c, digit   a byte of a rule: one from a to b, c alone, one from 0 to 9
--   follows p s                the bytes of s are those of p, one for one
--   follows_one ps s            s follows one of the alternatives ps
--   dec_octet                   the alternatives above, in their order;  is_dec_octet s: s follows one of them
use Rattle.std.specs.Prelude.{Bool, true, false, ◌&&◌, ◌||◌, List, [], ◌∷◌, ℕ, leb}

abbrev pub range : ℕ → ℕ → ℕ × ℕ
range a b = (a, b)

abbrev pub byte : ℕ → ℕ × ℕ
byte c = range c c

abbrev pub digit : ℕ × ℕ
digit = range 0x30 0x39

abbrev pub within : ℕ × ℕ → ℕ → Bool
within r c = leb r.0 c && leb c r.1

unfoldable pub follows : List (ℕ × ℕ) → List ℕ → Bool
follows [] [] = true
follows [] (c ∷ s) = false
follows (r ∷ p) [] = false
follows (r ∷ p) (c ∷ s) = follows p s && within r c

unfoldable pub follows_one : List (List (ℕ × ℕ)) → List ℕ → Bool
follows_one [] s = false
follows_one (p ∷ ps) s = follows p s || follows_one ps s

abbrev pub dec_octet : List (List (ℕ × ℕ))
dec_octet =
    (digit ∷ [])  -- DIGIT
    ∷ (range 0x31 0x39 ∷ digit ∷ [])  -- %x31-39 DIGIT
    ∷ (byte 0x31 ∷ digit ∷ digit ∷ [])  -- "1" 2DIGIT
    ∷ (byte 0x32 ∷ range 0x30 0x34 ∷ digit ∷ [])  -- "2" %x30-34 DIGIT
    ∷ (byte 0x32 ∷ byte 0x35 ∷ range 0x30 0x35 ∷ [])  -- "25" %x30-35
    ∷ []

unfoldable pub is_dec_octet : List ℕ → Bool
is_dec_octet s = follows_one dec_octet s
