use Rattle.book_why.proofs.Picking as picking
use Rattle.book_why.proofs.put_first.Goals as goal

pub sets_for-rounds-requires : goal.sets_for-rounds-requires
sets_for-rounds-requires c = record { members = c.requires.members; rounds = c.requires.rounds; earlier = picking.start_earlier c.requires.picks }

pub unwrap-packet-requires : goal.unwrap-packet-requires
unwrap-packet-requires c =
    let S = c.sets_for-rounds.ensures.gives c.requires.members c.requires.rounds (picking.start_earlier c.requires.picks) in
    picking.there (picking.begun c.requires.picks S (rw c.set_at-starts.ensures at c.first_of.ensures)).number

pub returns-clause-gives : goal.returns-clause-gives
returns-clause-gives c = record {
  gives = λ mem ws w P.
      let S = c.sets_for-rounds.ensures.gives mem ws (picking.start_earlier P) in
      let B = picking.begun P S (rw c.set_at-starts.ensures at c.first_of.ensures) in
      record {
        packet = B.packet;
        way = B.way;
        number = picking.same_there B.number c.unwrap-packet.ensures;
        going = rw c.sets_for-rounds.ensures.pending B.going;
        whole = B.whole;
        same = c.sets_for-rounds.ensures.same;
        unmade = S.tables;
        put = c.put_start.ensures.puts;
      };
}
