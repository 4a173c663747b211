use Rattle.book_why.proofs.Picking as picking
use Rattle.book_why.proofs.put_last.Goals as goal

pub epsilon_at-epsilon-requires : goal.epsilon_at-epsilon-requires
epsilon_at-epsilon-requires c = picking.last_known c.requires.number c.requires.going

pub end_of-requires : goal.end_of-requires
end_of-requires c = picking.last_asks c.requires.number c.requires.going c.epsilon_at-epsilon.ensures

pub unwrap-packet-requires : goal.unwrap-packet-requires
unwrap-packet-requires c =
    picking.there (picking.arrived c.requires.number c.requires.going c.epsilon_at-epsilon.ensures c.end_of.ensures.gives c.end_of.ensures.keeps.scratch.length).is

pub returns-clause-gives : goal.returns-clause-gives
returns-clause-gives c =
    let K = c.end_of.ensures.keeps in
    record {
      gives = λ mem n ws q v e G.
          let A = picking.arrived e G c.epsilon_at-epsilon.ensures c.end_of.ensures.gives K.scratch.length in
          record {
            packet = A.packet;
            number = c.unwrap-packet.result;
            is = picking.same_there A.is c.unwrap-packet.ensures;
            whole = A.whole;
            standing = rw (K.sp, K.spp, K.states, K.transitions, K.pending) A.standing;
            put = c.put_end.ensures.puts;
          };
    }
