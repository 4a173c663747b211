-- Computed blocks: those of the two smallest images, which of their bytes are found altered, and checks of given bytes.
use Rattle.std.specs.Prelude.{if◌then◌else◌}
use mathlib.Core.Path.{refl}
use mathlib.Core.List.{List, [], ◌∷◌}
use mathlib.Core.Option.{none, some}
use Prim.Native.Nat.{ℕ, zero, suc, ◌/◌, ◌%◌}
use lib.Dec.{eqb}
use lib.ListN.{set, replicate}
use Rattle.common.specs.Rows.{Row, row, Hold}
use Rattle.image_form.specs.Form.{half_at, wide_at, weighed, check, wides, block, blocks, word_at, verify}
use Rattle.image_form.specs.Damage.{exchange}

-- the words that are not 0, by their places
abbrev given : List (ℕ × ℕ) → ℕ → ℕ
given [] j = 0
given (p ∷ ps) j = if eqb j p.0 then p.1 else given ps j

-- the book `zero` without fields and budget: one state and one line; then the state's kind, and the line's state + 1
abbrev words : ℕ → ℕ → ℕ
words zero = given ((6, 1) ∷ (7, 1) ∷ [])
words (suc b) = given ((0, 1) ∷ (4, 1) ∷ [])

abbrev image : List ℕ
image = blocks words 0 2

-- the n bytes of a number, in front of r
abbrev digits : ℕ → ℕ → List ℕ → List ℕ
digits zero v r = r
digits (suc n) v r = digits n (v / 256) (v % 256 ∷ r)

abbrev pub rows : List Row
rows =
    -- a book with nothing in it
    row (blocks (λ b j. 0) 0 1) (replicate 512 0)
    -- the low byte of word j is byte 5 + 4 j
    ∷ row (block 0 (words 0)) (set (set (set (replicate 512 0) 29 1) 33 1) 511 64)
    ∷ row (block 1 (words 1)) (set (set (set (set (replicate 512 0) 1 1) 5 1) 21 1) 511 30)
    ∷ row (word_at image 1 4) 1
    ∷ row (verify image 1) none
    ∷ row (verify (set image 513 0) 1) (some 30)
    ∷ row (verify (exchange image 517 518) 1) (some 31)
    ∷ []

pub hold : Hold rows
unfolding verify half_at wide_at blocks block wides check weighed
hold = (refl, (refl, (refl, (refl, (refl, (refl, (refl, tt)))))))

abbrev pub checks : List Row
checks =
    row (check (replicate 510 1)) 64784
    ∷ row (check (replicate 510 255)) 8628
    ∷ row (check (digits 85 0x836c9765f3e438c1f54a5a5ff7fadc915c6c15e8636d817429305abcec0edb6b2c7f57f88680e9018d662726606081c96e1c7d1f99ebbc11764e787bc19735753f3b38cefcbd8d0e5e5235e01ad6afe7b06eacfb89
    (digits 85 0x003b1e8bc756755972630abfd32b2baecd25b18e08799f041400d8a1466c0e37e6531608f3dd538389aa82f80fc1ceed6cb7fc597d86289412a46cf087a987203a331281b008fa5e314cc4c45f55f001d124f56a96
    (digits 85 0xe4a6ba87e054236f40c931d804feccb8b5037c7a7c015007294a0b1d4ed17abd0f9bbef76af9721e6554b369cf405243689cbdb99053937d8f5c960184b2a4f1647b94fc41e9548b6f4a098ddb965458d9cded7e8f
    (digits 85 0xa5cdb122b528777c49a71bd7eb27b646fe342b91981b4ab4adc927ee5656697f2b9ae878628fa456aa8fd61e8a0daad70022b41afb549d5112e78c6404bd66aa1dac2a6eb970bd1907419b57946bcd27b2054f81fb
    (digits 85 0x7694ed900c70c39ef7eca3b9583c4396987b754ccfbe58f3ce6fb2429f17de2481d2c8b115215c37229d2f5b80a66920e0c5fc6a70012ba2e9e760b2f63d0109700f5673194488449582fcbd5d82ded01fe0f7c252
    (digits 85 0x4562aea4d52882ec53aacb7cbaef6fbf62bc97c04d352650678da256cac7a1a561d0f9e2fbe2d7c273b97a39014ff372f2c1870909baa92229d142d8699620cd395fc0b489dc2819b1dbeff146044a50654e3509dc []))))))) 49537
    ∷ []

pub checked : Hold checks
unfolding check weighed
checked = (refl, (refl, (refl, tt)))
