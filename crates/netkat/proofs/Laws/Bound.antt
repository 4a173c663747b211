-- No search takes more than 1 + S × P × T pairs. Each pair taken or pending, but for the first, was put there by a transition of a list
-- walked for a packet that was new at its state: the pairs are at pair_bound 1 + (packets seen, over the states expanded) × T.
use Rattle.std.specs.Prelude.{if◌then◌else◌}
use mathlib.Core.Path.{◌≡◌, refl}
use mathlib.Core.Bool.{Bool, true, false}
use mathlib.Core.List.{List, [], ◌∷◌}
use lib.ListN.{length}
use lib.Dec.{T, eqb}
use Prim.Native.Nat.{ℕ, suc, ◌+◌, ◌*◌, ◌^◌, max, ◌≤◌, ◌<◌}
use native.Mathlib.Nat.{mul-le-mul, mul-le-mul_right, le-max_left, le-max_right, le_refl}
use native.Mathlib.Omega.{arith}
use Rattle.common.specs.Packets.{Set, packets, any, inhabited, image}
use Rattle.netkat.specs.Lists.{State, Transition}
use Rattle.netkat.specs.Search.{Automaton, Pair, Log, found, noted, put, walk, fresh_of, expand}
use Rattle.netkat.specs.Promise.{Distinct, pair_bound}
use Rattle.common.proofs.PacketLaws.{packets_length, packet_listed, inhabited_to}
use Rattle.netkat.proofs.Laws.Tally.{tally, tally_le, tally_mono, tally_more, total, total_le, total_more, total_new}
use Rattle.netkat.proofs.Laws.Runs.{Went, skipped, ended, walked_on, KeptByTurns}
use Rattle.netkat.proofs.Laws.Seen.{expand_keeps, expand_adds, fresh_new}

-- the arithmetic of a turn that walks a list of `len`
walk_bound : (count rest pushed sum sum' longest len : ℕ) → count + suc rest ≤ 1 + sum * longest → sum < sum' → pushed ≤ len + rest →
    suc count + pushed ≤ 1 + sum' * max longest len
walk_bound count rest pushed sum sum' longest len h more p =
    omega (arith, mul-le-mul_right (max longest len) more, mul-le-mul (le_refl sum) (le-max_left longest len), le-max_right longest len)

module _ {n : ℕ} where
  put_length : (s : State) (x : Set n) (pending : List (Pair n)) → length (put s x pending) ≤ suc (length pending)
  put_length s x pending = go (inhabited x)
    where
      go : (b : Bool) → length (if b then (record { state = s; packets = x } ∷ pending) else pending) ≤ suc (length pending)
      go true = omega arith
      go false = omega arith

  walk_length : (fresh : Set n) (list : List (Transition State n)) (pending : List (Pair n)) → length (walk fresh list pending) ≤ length list + length pending
  unfolding walk
  walk_length fresh [] pending = omega arith
  walk_length fresh (t ∷ ts) pending =
      omega (arith, walk_length fresh ts (put t.target (image fresh t.label) pending), put_length t.target (image fresh t.label) pending)

  -- how many packets are seen at s; and the sum of these over the states expanded
  abbrev seen_amount : Log n → State → ℕ
  seen_amount log s = tally (log.seen s) (packets n)

  abbrev seen_total : Log n → ℕ
  seen_total log = total (seen_amount log) log.expanded

  seen_at_most : (log : Log n) → seen_total log ≤ length log.expanded * 2 ^ n
  seen_at_most log = total_le (seen_amount log) (2 ^ n) (λ s. omega (arith, tally_le (log.seen s) (packets n), packets_length n)) log.expanded

  -- an expansion adds to it
  expand_more : (pair : Pair n) (log : Log n) → T (inhabited (fresh_of pair log)) → seen_total log < seen_total (expand pair.state (fresh_of pair log) log)
  expand_more pair log f = by_noted (any (eqb s) log.expanded) refl
    where
      s : State
      s = pair.state

      fresh : Set n
      fresh = fresh_of pair log

      g : State → ℕ
      g = seen_amount (expand s fresh log)

      no_less : (t : State) → seen_amount log t ≤ g t
      no_less t = tally_mono (log.seen t) ((expand s fresh log).seen t) (expand_keeps s fresh log t) (packets n)

      more : seen_amount log s < g s
      more =
          let (p, h) = inhabited_to fresh f in
          tally_more (log.seen s) ((expand s fresh log).seen s) (expand_keeps s fresh log s) {a = p} (fresh_new pair log p h) (expand_adds s fresh log p h) (packet_listed p)

      by_noted : (b : Bool) → any (eqb s) log.expanded ≡ b → seen_total log < total g (if b then log.expanded else (s ∷ log.expanded))
      by_noted true e = total_more (seen_amount log) g no_less s more log.expanded (rw e tt)
      by_noted false e = total_new (seen_amount log) g no_less s more log.expanded

  module _ (𝓐 : Automaton n) where
    -- the pairs taken and pending, against what was seen
    abbrev pub Within : ℕ → 𝓐.Store → List (Pair n) → Log n → Type 0
    Within left σ pending log = log.count + length pending ≤ 1 + seen_total log * log.longest

    pub within_kept : KeptByTurns 𝓐 Within
    within_kept left σ pair rest log i σ' pending log' (skipped f) = omega arith
    within_kept left σ pair rest log i σ' pending log' (walked_on {list} f h r d) =
        walk_bound log.count (length rest) (length (walk (fresh_of pair log) list rest)) (seen_total log) _ log.longest (length list)
        i (expand_more pair log (rw f tt)) (walk_length (fresh_of pair log) list rest)

  pub within_most : (log : Log n) (pending : List (Pair n)) → log.count + length pending ≤ 1 + seen_total log * log.longest → log.count + length pending ≤ pair_bound log
  within_most log pending h = omega (arith, mul-le-mul_right log.longest (seen_at_most log))

  pub within_found : (𝓐 : Automaton n) {σ σ' : 𝓐.Store} {pair : Pair n} {rest : List (Pair n)} {log log' : Log n} →
      log.count + length (pair ∷ rest) ≤ 1 + seen_total log * log.longest → Went 𝓐 pair rest log σ σ' (found log') →
      log'.count + length rest ≤ 1 + seen_total log' * log'.longest
  within_found 𝓐 {pair} {log} i (ended f h r) = omega (arith, mul-le-mul_right log.longest (expand_more pair log (rw f tt)))

-- ---- S counts an expanded state once

noted_once : (s : State) (done : List State) → Distinct done → Distinct (noted s done)
noted_once s done o = go (any (eqb s) done) refl
  where
    go : (b : Bool) → any (eqb s) done ≡ b → Distinct (if b then done else (s ∷ done))
    go true e = o
    go false e = (λ t. rw e at t, o)

module _ {n : ℕ} (𝓐 : Automaton n) where
  abbrev pub CountsOnce : ℕ → 𝓐.Store → List (Pair n) → Log n → Type 0
  CountsOnce left σ pending log = Distinct log.expanded

  pub once_kept : KeptByTurns 𝓐 CountsOnce
  once_kept left σ pair rest log i σ' pending log' (skipped f) = i
  once_kept left σ pair rest log i σ' pending log' (walked_on f h r d) = noted_once pair.state log.expanded i

  pub once_found : {σ σ' : 𝓐.Store} {pair : Pair n} {rest : List (Pair n)} {log log' : Log n} → Distinct log.expanded → Went 𝓐 pair rest log σ σ' (found log') → Distinct log'.expanded
  once_found {pair} {log} i (ended f h r) = noted_once pair.state log.expanded i
