use Rattle.book_why.proofs.Picking as picking
use Rattle.book_why.proofs.put_next.Goals as goal

pub sets_for-rounds-requires : goal.sets_for-rounds-requires
sets_for-rounds-requires c = record { members = c.requires.members; rounds = c.requires.rounds; earlier = picking.next_earlier c.requires.number c.requires.going }

pub hop-requires : goal.hop-requires
hop-requires c =
    picking.next_asks c.requires.number c.requires.going (c.sets_for-rounds.ensures.gives c.requires.members c.requires.rounds (picking.next_earlier c.requires.number c.requires.going))

pub unwrap-packet-requires : goal.unwrap-packet-requires
unwrap-packet-requires c =
    picking.next_there c.requires.number c.requires.going (c.sets_for-rounds.ensures.gives c.requires.members c.requires.rounds (picking.next_earlier c.requires.number c.requires.going)) c.hop.result c.hop.ensures.gives

pub returns-clause-gives : goal.returns-clause-gives
returns-clause-gives c =
    let K = c.hop.ensures.keeps in
    record {
      gives = λ mem ws q v e G.
          let S = c.sets_for-rounds.ensures.gives mem ws (picking.next_earlier e G) in
          let H = picking.hopped e G S (rw c.unwrap-packet.ensures at c.hop.ensures.gives) K.scratch.length in
          record {
            packet = H.packet;
            way = H.way;
            number = H.number;
            going = rw (K.sp, K.spp, K.states, K.transitions, K.pending, c.sets_for-rounds.ensures.pending) H.going;
            whole = H.whole;
            same = c.sets_for-rounds.ensures.same;
            unmade = rw (K.sp, K.spp, K.states, K.transitions) S.tables;
            put = c.put_hop.ensures.puts;
          };
    }
