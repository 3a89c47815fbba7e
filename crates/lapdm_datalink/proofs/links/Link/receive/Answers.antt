use Rattle.{lapdm_frame.specs.Content.{frame_of_view}, lapdm_datalink.specs.Links.{renewed_for}}
use Rattle.lapdm_datalink.proofs.links.Link.receive.Goals as goal

pub returns-clause-done : goal.returns-clause-done
returns-clause-done c l h =
    let m = renewed_for (frame_of_view c.args.frame.now) l in
    let g = c.restart_if_opened_again_by.ensures.represents l h in
    let t = c.take.ensures.done m g in
    record {
      endpoint = t.endpoint;
      t200 = t.t200;
      answer = t.answer;
      is_answer = t.is_answer;
      is_sent = t.is_sent;
      clock = t.clock;
      heard = c.has_heard_with-heard.ensures m g;
    }
