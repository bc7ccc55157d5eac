use Rattle.std.specs.Prelude.{ℕ}
use Rattle.cluster_model.specs.Server.{ServerState, preset_server}

-- the preset server once it gave so many ticks in its first boot, of which but the first left nothing to see
abbrev pub preset_after : ℕ → ServerState
preset_after count = record {
  number = 1;
  clock = record { boot = 1; count = count };
  root = preset_server.root;
  names = preset_server.names;
  files = preset_server.files;
}
