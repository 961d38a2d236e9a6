-- The events of messages that came to a part so far, and those of one more.
use Rattle.std.proofs.Common.{◌≡◌, ◌≢◌, false, List, [], ◌∷◌, ◌++◌, append_assoc, append-nil, ap, ◌∙◌, sym}
use Rattle.std.specs.FinMap.{FinMap, contains_key, insert}
use Rattle.base.specs.declared.key.Key.{Key}
use Rattle.base.specs.Order.{key_cmp}
use Rattle.base.specs.World.{with_events}
use Rattle.base.specs.Rising.{AreNew}
use Rattle.base.proofs.Rising.{all_weaker}
use Rattle.member.specs.declared.event_kind.EventKind.{EventKind}
use Rattle.windows.proofs.Deliveries.{absent_inserted}
use Rattle.windows.proofs.Far.{all_both}
use Rattle.lookahead_windows.specs.Messages.{Message, all_events}

-- events that are new beside others are new once those pend
pub new_behind : (es fs : List (Key × EventKind)) (pending : FinMap key_cmp EventKind) → AreNew pending (es ++ fs) → AreNew (with_events pending es) fs
new_behind [] fs pending new = new
new_behind (e ∷ es) fs pending new =
    new_behind es fs (insert pending e.0 e.1)
    (record {
      unlike_pending =
          all_weaker (λ f. (e.0 ≢ f.0) × (contains_key pending f.0 ≡ false)) (λ f. contains_key (insert pending e.0 e.1) f.0 ≡ false) (λ f both. absent_inserted pending e.0 f.0 e.1 both.0 both.1) (es ++ fs)
          (all_both (λ f. e.0 ≢ f.0) (λ f. contains_key pending f.0 ≡ false) (es ++ fs) new.unlike_each_other.0 new.unlike_pending.1);
      unlike_each_other = new.unlike_each_other.1;
    })

-- the events of one message more
pub events_more : (ms : List Message) (m : Message) → all_events (ms ++ m ∷ []) ≡ all_events ms ++ m.events
events_more [] m = append-nil m.events
events_more (x ∷ ms) m = ap (λ es. x.events ++ es) (events_more ms m) ∙ sym (append_assoc x.events (all_events ms) m.events)
