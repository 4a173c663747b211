-- 02 (ii), "in blocks of 512 bytes": what is written as blocks is taken, and its words are read back; and an image whose blocks are taken is what
-- is written of its words.
use Rattle.std.specs.Prelude.{if◌then◌else◌}
use mathlib.Core.Path.{◌≡◌, refl, sym, ap, ap₂, ◌∙◌}
use mathlib.Core.List.{List, [], ◌∷◌, ◌++◌, append_assoc}
use mathlib.Core.Bool.{Bool, true, false}
use mathlib.Core.Option.{Option, none, some}
use Prim.Native.Nat.{ℕ, zero, suc, ◌+◌, ◌*◌, ◌-◌, ◌≤◌, ◌<◌, min}
use native.Mathlib.Omega.{arith}
use borrow.Author.Tests.{eq-eqb}
use lib.Dec.{T, eqb, eqb→eq}
use lib.ListN.{length, get_or, take, drop, length-append, length-take, length-drop, take-append-drop, drop_of_length-le}
use lib.Seq.{take_at, drop_at, get_or-take, get_or-drop, drop-drop, drop-cons, take-add, ext_get_or}
use Rattle.image_form.specs.Form.{half, wide, half_at, wide_at, check, wides, front, block, blocks, word_at, front_at, verify}
use Rattle.image_form.specs.Damage.{Bytes}
use Rattle.image_form.proofs.Bytes.{bytes_nil, bytes_append, half_bytes, wide_bytes, half_join, wide_join, half_high, half_low, wide_split, wide_small}

-- ---- lengths

pub wides_length : (w : ℕ → ℕ) (j k : ℕ) → length (wides w j k) ≡ 4 * k
unfolding wides
wides_length w j zero = refl
wides_length w j (suc k) = omega (arith, wides_length w (j + 1) k)

pub front_length : (b : ℕ) (w : ℕ → ℕ) → length (front b w) ≡ 510
front_length b w = omega (arith, wides_length w 0 127)

pub block_length : (b : ℕ) (w : ℕ → ℕ) → length (block b w) ≡ 512
unfolding block
block_length b w = omega (arith, front_length b w, length-append (front b w) (half (check (front b w))))

pub blocks_length : (w : ℕ → ℕ → ℕ) (b n : ℕ) → length (blocks w b n) ≡ 512 * n
unfolding blocks
blocks_length w b zero = refl
blocks_length w b (suc n) = omega (arith, length-append (block b (w b)) (blocks w (b + 1) n), block_length b (w b), blocks_length w (b + 1) n)

-- ---- bytes

pub check_small : (s : List ℕ) → check s < 65521
unfolding check
check_small s = omega arith

pub wides_bytes : (w : ℕ → ℕ) (j k : ℕ) → ((i : ℕ) → i < j + k → w i < 4294967296) → Bytes (wides w j k)
unfolding wides
wides_bytes w j zero h = bytes_nil
wides_bytes w j (suc k) h =
    bytes_append (wide (w j)) (wides w (j + 1) k) (wide_bytes (w j) (h j (omega arith))) (wides_bytes w (j + 1) k (λ i l. h i (omega arith)))

pub front_bytes : (b : ℕ) (w : ℕ → ℕ) → b < 65536 → ((j : ℕ) → j < 127 → w j < 4294967296) → Bytes (front b w)
front_bytes b w l h = bytes_append (half b) (wides w 0 127) (half_bytes b l) (wides_bytes w 0 127 (λ i k. h i (omega arith)))

pub block_bytes : (b : ℕ) (w : ℕ → ℕ) → b < 65536 → ((j : ℕ) → j < 127 → w j < 4294967296) → Bytes (block b w)
unfolding block
block_bytes b w l h =
    let few : check (front b w) < 65521 = check_small (front b w) in
    bytes_append (front b w) (half (check (front b w))) (front_bytes b w l h) (half_bytes (check (front b w)) (omega arith))

blocks_bytes_from : (w : ℕ → ℕ → ℕ) (b n : ℕ) → b + n ≤ 65536 → ((c j : ℕ) → c < b + n → j < 127 → w c j < 4294967296) → Bytes (blocks w b n)
unfolding blocks
blocks_bytes_from w b zero l h = bytes_nil
blocks_bytes_from w b (suc n) l h =
    bytes_append (block b (w b)) (blocks w (b + 1) n)
    (block_bytes b (w b) (omega arith) (λ j k. h b j (omega arith) k))
    (blocks_bytes_from w (b + 1) n (omega arith) (λ c j k m. h c j (omega arith) m))

pub blocks_bytes : (w : ℕ → ℕ → ℕ) (n : ℕ) → n ≤ 65536 → ((b j : ℕ) → b < n → j < 127 → w b j < 4294967296) → Bytes (blocks w 0 n)
blocks_bytes w n l h = blocks_bytes_from w 0 n (omega arith) (λ c j k m. h c j (omega arith) m)

-- ---- the same words, the same blocks

pub wides_same : (v w : ℕ → ℕ) (j k : ℕ) → ((i : ℕ) → i < j + k → v i ≡ w i) → wides v j k ≡ wides w j k
unfolding wides
wides_same v w j zero h = refl
wides_same v w j (suc k) h = ap₂ (λ (x : ℕ) (r : List ℕ). wide x ++ r) (h j (omega arith)) (wides_same v w (j + 1) k (λ i l. h i (omega arith)))

pub block_same : (b : ℕ) (v w : ℕ → ℕ) → ((j : ℕ) → j < 127 → v j ≡ w j) → block b v ≡ block b w
unfolding block
block_same b v w h =
    ap (λ (r : List ℕ). (half b ++ r) ++ half (check (half b ++ r))) (wides_same v w 0 127 (λ i l. h i (omega arith)))

blocks_same_from : (v w : ℕ → ℕ → ℕ) (b n : ℕ) → ((c j : ℕ) → c < b + n → j < 127 → v c j ≡ w c j) → blocks v b n ≡ blocks w b n
unfolding blocks
blocks_same_from v w b zero h = refl
blocks_same_from v w b (suc n) h =
    ap₂ (λ (x y : List ℕ). x ++ y) (block_same b (v b) (w b) (λ j l. h b j (omega arith) l)) (blocks_same_from v w (b + 1) n (λ c j l m. h c j (omega arith) m))

pub blocks_same : (v w : ℕ → ℕ → ℕ) (n : ℕ) → ((b j : ℕ) → b < n → j < 127 → v b j ≡ w b j) → blocks v 0 n ≡ blocks w 0 n
blocks_same v w n h = blocks_same_from v w 0 n (λ c j l m. h c j (omega arith) m)

-- ---- a part of an image

pub half_drop : (s : List ℕ) (n i : ℕ) → half_at (drop n s) i ≡ half_at s (n + i)
unfolding half_at
half_drop s n i =
    ap₂ (λ (x y : ℕ). 256 * x + y) (get_or-drop n s i 0) (get_or-drop n s (i + 1) 0 ∙ ap (λ (k : ℕ). get_or s k 0) (omega arith))

pub wide_drop : (s : List ℕ) (n i : ℕ) → wide_at (drop n s) i ≡ wide_at s (n + i)
unfolding wide_at
wide_drop s n i =
    ap₂ (λ (x y : ℕ). 65536 * x + y) (half_drop s n i) (half_drop s n (i + 2) ∙ ap (half_at s) (omega arith))

-- ---- words read back

pub wides_word : (w : ℕ → ℕ) (j k : ℕ) (t : List ℕ) (i : ℕ) → i < k → wide_at (wides w j k ++ t) (4 * i) ≡ w (j + i)
unfolding wides wide_at half_at
wides_word w j zero t i l = absurd (omega arith)
wides_word w j (suc k) t zero l = wide_join (w j) ∙ ap w (omega arith)
wides_word w j (suc k) t (suc i) l =
    let e : 4 * suc i ≡ 4 + 4 * i = omega arith in
    ap (wide_at (wides w j (suc k) ++ t)) e
    ∙ sym (wide_drop (wides w j (suc k) ++ t) 4 (4 * i))
    ∙ wides_word w (j + 1) k t i (omega arith)
    ∙ ap w (omega arith)

-- the blocks from block i on
pub blocks_drop : (w : ℕ → ℕ → ℕ) (b i n : ℕ) → drop (512 * i) (blocks w b (i + n)) ≡ blocks w (b + i) n
unfolding blocks
blocks_drop w b zero n =
    let c : b ≡ b + 0 = omega arith in
    let m : 0 + n ≡ n = omega arith in
    ap₂ (blocks w) c m
blocks_drop w b (suc i) n =
    let e : 512 * suc i ≡ 512 + 512 * i = omega arith in
    let m : suc i + n ≡ suc (i + n) = omega arith in
    ap₂ (λ (k l : ℕ). drop k (blocks w b l)) e m
    ∙ sym (drop-drop (512 * i) 512 (block b (w b) ++ blocks w (b + 1) (i + n)))
    ∙ ap (drop (512 * i)) (drop_at (block b (w b)) (blocks w (b + 1) (i + n)) 512 (block_length b (w b)))
    ∙ blocks_drop w (b + 1) i n
    ∙ ap (λ (c : ℕ). blocks w c n) (omega arith)

module _ (w : ℕ → ℕ → ℕ) (n b : ℕ) (l : b < n) where
  -- block b, and what follows it
  blocks_at : (m : ℕ) × (drop (512 * b) (blocks w 0 n) ≡ block b (w b) ++ blocks w (b + 1) m)
  unfolding blocks
  blocks_at =
      let m : ℕ = n - suc b in
      let e : n ≡ b + suc m = omega arith in
      let z : 0 + b ≡ b = omega arith in
      (m, ap (λ (k : ℕ). drop (512 * b) (blocks w 0 k)) e ∙ blocks_drop w 0 b (suc m) ∙ ap (λ (c : ℕ). blocks w c (suc m)) z)

  blocks_parts : (t : List ℕ) × (drop (512 * b) (blocks w 0 n) ≡ front b (w b) ++ (half (check (front b (w b))) ++ t))
  unfolding block
  blocks_parts =
      let t : List ℕ = blocks w (b + 1) blocks_at.0 in
      (t, blocks_at.1 ∙ append_assoc (front b (w b)) (half (check (front b (w b)))) t)

  pub blocks_front : front_at (blocks w 0 n) b ≡ front b (w b)
  blocks_front =
      let p = blocks_parts in
      ap (take 510) p.1 ∙ take_at (front b (w b)) (half (check (front b (w b))) ++ p.0) 510 (front_length b (w b))

  pub blocks_number : half_at (blocks w 0 n) (512 * b) ≡ b
  unfolding half_at
  blocks_number =
      let p = blocks_parts in
      let z : 512 * b ≡ 512 * b + 0 = omega arith in
      ap (half_at (blocks w 0 n)) z ∙ sym (half_drop (blocks w 0 n) (512 * b) 0) ∙ ap (λ (s : List ℕ). half_at s 0) p.1 ∙ half_join b

  pub blocks_check : half_at (blocks w 0 n) (512 * b + 510) ≡ check (front b (w b))
  unfolding half_at
  blocks_check =
      let p = blocks_parts in
      let f : List ℕ = front b (w b) in
      let h : List ℕ = half (check f) ++ p.0 in
      sym (half_drop (blocks w 0 n) (512 * b) 510)
      ∙ ap (λ (s : List ℕ). half_at s 510) p.1
      ∙ sym (half_drop (f ++ h) 510 0)
      ∙ ap (λ (s : List ℕ). half_at s 0) (drop_at f h 510 (front_length b (w b)))
      ∙ half_join (check f)

  blocks_word_at : (j : ℕ) → j < 127 → word_at (blocks w 0 n) b j ≡ w b j
  blocks_word_at j k =
      let p = blocks_parts in
      let t : List ℕ = half (check (front b (w b))) ++ p.0 in
      let z : 0 + j ≡ j = omega arith in
      sym (wide_drop (blocks w 0 n) (512 * b) (2 + 4 * j))
      ∙ ap (λ (s : List ℕ). wide_at s (2 + 4 * j)) p.1
      ∙ sym (wide_drop (front b (w b) ++ t) 2 (4 * j))
      ∙ wides_word (w b) 0 127 t j k
      ∙ ap (w b) z

pub blocks_word : (w : ℕ → ℕ → ℕ) (n b j : ℕ) → b < n → j < 127 → w b j < 4294967296 → word_at (blocks w 0 n) b j ≡ w b j
blocks_word w n b j l k small = blocks_word_at w n b l j k

-- ---- what it is for a block to be taken

passed : (x y : Bool) → ◌≡◌ {A = Option ℕ} (if x then (if y then none else some 31) else some 30) none → T x × T y
passed true true e = (tt, tt)
passed true false e = let z : ◌≡◌ {A = ℕ} 0 1 = cc in absurd (omega arith)
passed false y e = let z : ◌≡◌ {A = ℕ} 0 1 = cc in absurd (omega arith)

pub verify_made : (s : List ℕ) (b : ℕ) → half_at s (512 * b) ≡ b → half_at s (512 * b + 510) ≡ check (front_at s b) → verify s b ≡ none
unfolding verify
verify_made s b p q = rw (eq-eqb (half_at s (512 * b)) b p, eq-eqb (half_at s (512 * b + 510)) (check (front_at s b)) q)

pub verify_number : (s : List ℕ) (b : ℕ) → verify s b ≡ none → half_at s (512 * b) ≡ b
unfolding verify
verify_number s b e = eqb→eq (half_at s (512 * b)) b (passed (eqb (half_at s (512 * b)) b) (eqb (half_at s (512 * b + 510)) (check (front_at s b))) e).0

pub verify_check : (s : List ℕ) (b : ℕ) → verify s b ≡ none → half_at s (512 * b + 510) ≡ check (front_at s b)
unfolding verify
verify_check s b e =
    eqb→eq (half_at s (512 * b + 510)) (check (front_at s b)) (passed (eqb (half_at s (512 * b)) b) (eqb (half_at s (512 * b + 510)) (check (front_at s b))) e).1

pub blocks_verify : (w : ℕ → ℕ → ℕ) (n b : ℕ) → n ≤ 65536 → b < n → ((j : ℕ) → j < 127 → w b j < 4294967296) → verify (blocks w 0 n) b ≡ none
blocks_verify w n b few l small =
    verify_made (blocks w 0 n) b (blocks_number w n b l) (blocks_check w n b l ∙ ap check (sym (blocks_front w n b l)))

-- ---- an image whose blocks are taken is what is written of its words

cut_two : (s : List ℕ) (i : ℕ) → i + 2 ≤ length s → drop i s ≡ get_or s i 0 ∷ get_or s (i + 1) 0 ∷ drop (i + 2) s
cut_two s i l =
    let e : suc i ≡ i + 1 = omega arith in
    let f : suc (i + 1) ≡ i + 2 = omega arith in
    drop-cons s i 0 (omega arith)
    ∙ ap (λ (r : List ℕ). get_or s i 0 ∷ r) (ap (λ (m : ℕ). drop m s) e ∙ drop-cons s (i + 1) 0 (omega arith) ∙ ap (λ (m : ℕ). get_or s (i + 1) 0 ∷ drop m s) f)

pub half_of : (s : List ℕ) (i : ℕ) → Bytes s → i + 2 ≤ length s → take 2 (drop i s) ≡ half (half_at s i)
unfolding half_at
half_of s i p l =
    let x : ℕ = get_or s i 0 in
    let y : ℕ = get_or s (i + 1) 0 in
    ap (take 2) (cut_two s i l) ∙ ap₂ (λ (m n : ℕ). m ∷ n ∷ []) (sym (half_high x y (p (i + 1)))) (sym (half_low x y (p (i + 1))))

-- k words, the first of them word j of those that start at byte i
pub wides_of : (s : List ℕ) (i : ℕ) → Bytes s → (j k : ℕ) → i + 4 * (j + k) ≤ length s → take (4 * k) (drop (i + 4 * j) s) ≡ wides (λ m. wide_at s (i + 4 * m)) j k
unfolding wides wide_at half_at
wides_of s i p j zero l = refl
wides_of s i p j (suc k) l =
    let a : ℕ = i + 4 * j in
    let c : ℕ = a + 2 in
    let e : 4 * suc k ≡ suc (suc (suc (suc (4 * k)))) = omega arith in
    let f : c + 2 ≡ i + 4 * (j + 1) = omega arith in
    let cut : drop a s ≡ get_or s a 0 ∷ get_or s (a + 1) 0 ∷ get_or s c 0 ∷ get_or s (c + 1) 0 ∷ drop (i + 4 * (j + 1)) s =
    cut_two s a (omega arith)
    ∙ ap (λ (r : List ℕ). get_or s a 0 ∷ get_or s (a + 1) 0 ∷ r) (cut_two s c (omega arith) ∙ ap (λ (m : ℕ). get_or s c 0 ∷ get_or s (c + 1) 0 ∷ drop m s) f) in
    ap₂ (λ (m : ℕ) (r : List ℕ). take m r) e cut
    ∙ ap₂ (λ (x y : List ℕ). x ++ y)
    (sym (wide_split (get_or s a 0) (get_or s (a + 1) 0) (get_or s c 0) (get_or s (c + 1) 0) (p a) (p (a + 1)) (p c) (p (c + 1))))
    (wides_of s i p (j + 1) k (omega arith))

module _ (s : List ℕ) (b : ℕ) (p : Bytes s) (l : 512 * b + 512 ≤ length s) (e : verify s b ≡ none) where
  pub front_of : front_at s b ≡ front b (word_at s b)
  front_of =
      let a : ℕ = 512 * b in
      let z : a + 2 ≡ a + 2 + 0 = omega arith in
      take-add 2 508 (drop a s)
      ∙ ap₂ (λ (x y : List ℕ). x ++ y)
      (half_of s a p (omega arith) ∙ ap half (verify_number s b e))
      (ap (take 508) (drop-drop 2 a s ∙ ap (λ (m : ℕ). drop m s) z)
      ∙ wides_of s (a + 2) p 0 127 (omega arith)
      ∙ wides_same (λ m. wide_at s (a + 2 + 4 * m)) (word_at s b) 0 127 (λ i k. ap (wide_at s) (omega arith)))

  pub block_of : take 512 (drop (512 * b) s) ≡ block b (word_at s b)
  unfolding block
  block_of =
      let a : ℕ = 512 * b in
      take-add 510 2 (drop a s)
      ∙ ap₂ (λ (x y : List ℕ). x ++ y) front_of
      (ap (take 2) (drop-drop 510 a s)
      ∙ half_of s (a + 510) p (omega arith)
      ∙ ap half (verify_check s b e ∙ ap check front_of))

blocks_of_from : (s : List ℕ) (b n : ℕ) → Bytes s → length s ≡ 512 * (b + n) → ((c : ℕ) → c < b + n → verify s c ≡ none) → drop (512 * b) s ≡ blocks (word_at s) b n
unfolding blocks
blocks_of_from s b zero p l h = drop_of_length-le s {i = 512 * b} (omega arith)
blocks_of_from s b (suc n) p l h =
    let e : 512 * b + 512 ≡ 512 * (b + 1) = omega arith in
    sym (take-append-drop 512 (drop (512 * b) s))
    ∙ ap₂ (λ (x y : List ℕ). x ++ y)
    (block_of s b p (omega arith) (h b (omega arith)))
    (drop-drop 512 (512 * b) s ∙ ap (λ (m : ℕ). drop m s) e ∙ blocks_of_from s (b + 1) n p (omega arith) (λ c k. h c (omega arith)))

pub blocks_of_lem : (image : List ℕ) (n : ℕ) → Bytes image → length image ≡ 512 * n → ((b : ℕ) → b < n → verify image b ≡ none) → image ≡ blocks (word_at image) 0 n
blocks_of_lem image n p l h = blocks_of_from image 0 n p (omega arith) (λ c k. h c (omega arith))

-- ---- what a block is read from

pub word_small : (image : List ℕ) (b j : ℕ) → Bytes image → word_at image b j < 4294967296
word_small image b j p = wide_small image (512 * b + (2 + 4 * j)) p

half_local : (s t : List ℕ) (i : ℕ) → get_or s i 0 ≡ get_or t i 0 → get_or s (i + 1) 0 ≡ get_or t (i + 1) 0 → half_at s i ≡ half_at t i
unfolding half_at
half_local s t i p q = ap₂ (λ (x y : ℕ). 256 * x + y) p q

module _ (s t : List ℕ) (b : ℕ) (same : (i : ℕ) → i < 512 → get_or s (512 * b + i) 0 ≡ get_or t (512 * b + i) 0) where
  byte_local : (i : ℕ) → 512 * b ≤ i → i < 512 * b + 512 → get_or s i 0 ≡ get_or t i 0
  byte_local i l k =
      let e : 512 * b + (i - 512 * b) ≡ i = omega arith in
      ap (λ (m : ℕ). get_or s m 0) (sym e) ∙ same (i - 512 * b) (omega arith) ∙ ap (λ (m : ℕ). get_or t m 0) e

  half_local_at : (i : ℕ) → 512 * b ≤ i → i < 512 * b + 511 → half_at s i ≡ half_at t i
  half_local_at i l k = half_local s t i (byte_local i l (omega arith)) (byte_local (i + 1) (omega arith) (omega arith))

  word_local_at : (j : ℕ) → j < 127 → word_at s b j ≡ word_at t b j
  unfolding wide_at
  word_local_at j l =
      ap₂ (λ (x y : ℕ). 65536 * x + y)
      (half_local_at (512 * b + (2 + 4 * j)) (omega arith) (omega arith))
      (half_local_at (512 * b + (2 + 4 * j) + 2) (omega arith) (omega arith))

  front_local : length s ≡ length t → front_at s b ≡ front_at t b
  front_local e =
      let f : length (drop (512 * b) s) ≡ length (drop (512 * b) t) = length-drop (512 * b) s ∙ ap (λ (k : ℕ). k - 512 * b) e ∙ sym (length-drop (512 * b) t) in
      let m : length (take 510 (drop (512 * b) s)) ≡ length (take 510 (drop (512 * b) t)) =
      length-take 510 (drop (512 * b) s) ∙ ap (λ (k : ℕ). min 510 k) f ∙ sym (length-take 510 (drop (512 * b) t)) in
      ext_get_or 0 (front_at s b) (front_at t b) m at
    where
      at : (i : ℕ) → i < length (front_at s b) → get_or (front_at s b) i 0 ≡ get_or (front_at t b) i 0
      at i l =
          let k : i < 510 = omega (arith, length-take 510 (drop (512 * b) s)) in
          get_or-take 510 (drop (512 * b) s) i 0 k ∙ get_or-drop (512 * b) s i 0 ∙ same i (omega arith)
          ∙ sym (get_or-take 510 (drop (512 * b) t) i 0 k ∙ get_or-drop (512 * b) t i 0)

  verify_local_at : length s ≡ length t → verify s b ≡ verify t b
  unfolding verify
  verify_local_at e = rw (half_local_at (512 * b) (omega arith) (omega arith), half_local_at (512 * b + 510) (omega arith) (omega arith), front_local e)

pub verify_local : (s t : List ℕ) (b : ℕ) → ((i : ℕ) → i < 512 → get_or s (512 * b + i) 0 ≡ get_or t (512 * b + i) 0) → length s ≡ length t → verify s b ≡ verify t b
verify_local s t b same e = verify_local_at s t b same e

pub word_local : (s t : List ℕ) (b : ℕ) → ((i : ℕ) → i < 512 → get_or s (512 * b + i) 0 ≡ get_or t (512 * b + i) 0) → (j : ℕ) → j < 127 → word_at s b j ≡ word_at t b j
word_local s t b same j l = word_local_at s t b same j l
