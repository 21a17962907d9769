-- What the names of a platform lead to.
use Rattle.std.specs.Prelude.{Result, Ok}
use Rattle.platform_model.specs.Reading.{PlatformRefusal, rows_from}
use Rattle.tlm_types.specs.Reading.{◌>>=◌}
use Rattle.platform_file.specs.declared.bound.BoundRows.{BoundRows}
use Rattle.platform_file.specs.declared.top.PlatformKeys.{PlatformKeys}
use Rattle.platform_file.specs.Names.{names_of}
use Rattle.platform_file.specs.Platform.{bound_initiator, bound_router, checked_windows}

-- the initiators and the routers with what they lead to, where the routers' windows have no fault
unfoldable pub bound_rows : PlatformKeys → Result BoundRows PlatformRefusal
bound_rows keys = do
  names ← names_of keys
  initiators ← rows_from (bound_initiator names) 0 keys.initiators
  routers ← rows_from (bound_router names) 0 keys.routers
  _ ← rows_from checked_windows 0 routers
  Ok (record { initiators = initiators; routers = routers })
