-- The call is one more: it goes on where those before it led.
use Rattle.std.proofs.Common.{refl}
use Rattle.examples.proofs.session.Session.read.Goals as goal

pub returns : goal.returns
returns c = λ steps had.
    let call = c.advance.ensures.advances had.state had.is_at in
    record {
      state = call.next;
      takes = c.calls_are_received.ensures.goes_on _ _ _ _ steps _ had.takes (call.next, (call.advances, refl));
      is_at = call.is_at;
    }
