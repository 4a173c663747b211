-- 01, "The book and its answers", the query `pruned`: "line, number of transitions; each `pair`: target state number, packet pairs in the label": what writing its lines asks and promises.
use Rattle.std.specs.Prelude.{◌≡◌, List, map, ℕ, ◌+◌, ◌*◌, ◌≤◌, ◌<◌, length, get_or, Result}
use Rattle.common.specs.Runs.{Table}
use Rattle.cache.specs.Cache.{OnCodes, OnlyCodes, Sound}
use Rattle.netkat_steps.specs.ListSteps.{Edge}
use Rattle.spp_steps.specs.Model as Spp
use Rattle.spp_steps.specs.Wf.{Wf, ValidAt}
use Rattle.spp_image.specs.Reuse.{Counted}
use Rattle.aut_st_steps.specs.Edges.{edges}
use Rattle.aut_st_insert.specs.Clauses.{RESULT}
use Rattle.book_steps.specs.Answers.{Pairs, pair_lines, pruned_answer}
use Rattle.aut_relations.specs.Behind.{LISTS, cached}
use Rattle.aut_sets.specs.Clauses.{NotesBehind}
use Rattle.refusal.specs.declared.Refusal.{Refusal}
use Rattle.book_writer.specs.declared.output.Output.{Output}
use Rattle.book_writer.specs.Clauses.{Room, Answers}

-- what the lines of the transitions tell
abbrev pub told : ℕ → Table → List Edge → List Pairs
told N t es = map (λ (e : Edge). record { target = e.target; number = Spp.size t.words N e.label }) es

-- the m transitions at RESULT have relations as labels, and numbers of pairs that are noted are right
pub record PrePairs (N : ℕ) (t : Table) (s : List ℕ) (m : ℕ) : Type 0 where
  pub few : N ≤ 31
  pub wf : Wf N t
  pub room : LISTS ≤ length s
  pub sound : Sound (OnCodes 17 17 (Counted t)) (cached s)
  pub most : m ≤ 64
  pub labels : (i : ℕ) → i < m → ValidAt t N (get_or s (2 * (RESULT + i) + 1) 0)

-- u is the target of transition i, r the number of packet pairs in its label
pub record PostPair (N : ℕ) (t : Table) (i u r : ℕ) (s s' : List ℕ) : Type 0 where
  pub target : u ≡ get_or s (2 * (RESULT + i)) 0
  pub is : r ≡ Spp.size t.words N (get_or s (2 * (RESULT + i) + 1) 0)
  pub left : NotesBehind (OnlyCodes 17 17 (Counted t)) s s'

pub record PostLength (N : ℕ) (t : Table) (m r : ℕ) (s s' : List ℕ) : Type 0 where
  pub is : r ≡ length (pair_lines (told N t (edges s RESULT m)))
  pub most : r ≤ 47 * m
  pub left : NotesBehind (OnlyCodes 17 17 (Counted t)) s s'

pub record PrePut (N : ℕ) (t : Table) (s : List ℕ) (o : Output) (m : ℕ) : Type 0 where
  pub pairs : PrePairs N t s m
  pub fits : Room (length (pair_lines (told N t (edges s RESULT m)))) o

pub record PostPairs (N : ℕ) (t : Table) (m : ℕ) (r : Result Unit Refusal) (s s' : List ℕ) (o o' : Output) : Type 0 where
  pub answers : Answers (pair_lines (told N t (edges s RESULT m))) o r o'
  pub left : NotesBehind (OnlyCodes 17 17 (Counted t)) s s'

pub record PostPruned (N : ℕ) (t : Table) (name : List ℕ) (m : ℕ) (r : Result Unit Refusal) (s s' : List ℕ) (o o' : Output) : Type 0 where
  pub answers : Answers (pruned_answer name (told N t (edges s RESULT m))) o r o'
  pub left : NotesBehind (OnlyCodes 17 17 (Counted t)) s s'
