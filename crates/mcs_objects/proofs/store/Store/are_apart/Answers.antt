use Rattle.mcs_objects.proofs.MapLaws.{place-room, place-apart, place-owner, place-owned, place-value, value-given}
use Rattle.mcs_objects.proofs.store.Store.are_apart.Goals as goal

pub returns : goal.returns
returns g c =
    let s = c.args.self.now in
    let is_map = c.is_map.ensures in
    record {
      room = place-room s is_map;
      apart = place-apart s is_map;
      owner = place-owner s is_map;
      owned = place-owned s is_map;
      both = place-value s;
      given = value-given s is_map;
    }
