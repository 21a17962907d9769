-- Worked documents, by computing the definitions.
use Rattle.std.proofs.Common.{◌≡◌, Ok, Err, refl}
use Rattle.std.specs.Fmt.{digits}
use Rattle.std.specs.Str.{chars, is_utf8}
use Rattle.toml.proofs.OnLiterals.{toml_on_literals}
use Rattle.platform_file.specs.Names.{names_of, with_names}
use Rattle.platform_file.specs.Platform.{bound_initiator, bound_router, bound_window, document_of, platform_of, platform_of_table}
use Rattle.platform_model.specs.Reading.{rows_from}
use Rattle.platform_file.specs.Tables.{initiator_keys, memory_row, memory_traits, platform_keys, router_keys, window_keys}
use Rattle.platform_file.specs.Worked.{example, example_platform, key_of_version_2, least_unknown_key, second_bearer, shared_name, unknown_in_version_1, unknown_keys, version_2, version_2_platform}

pub example_read : platform_of example ≡ Ok example_platform
unfolding example example_platform document_of is_utf8 chars toml_on_literals platform_of_table platform_keys rows_from initiator_keys router_keys window_keys memory_row memory_traits names_of with_names bound_initiator bound_router bound_window
example_read = refl

pub unknown_keys_refused : platform_of unknown_keys ≡ Err least_unknown_key
unfolding unknown_keys document_of is_utf8 chars toml_on_literals platform_of_table platform_keys
unknown_keys_refused = refl

pub shared_name_refused : platform_of shared_name ≡ Err second_bearer
unfolding shared_name document_of is_utf8 chars toml_on_literals platform_of_table platform_keys rows_from initiator_keys memory_row memory_traits names_of with_names digits
shared_name_refused = refl

pub version_2_read : platform_of version_2 ≡ Ok version_2_platform
unfolding version_2 version_2_platform document_of is_utf8 chars toml_on_literals platform_of_table platform_keys rows_from initiator_keys memory_row memory_traits names_of with_names bound_initiator
version_2_read = refl

pub key_of_version_2_refused : platform_of key_of_version_2 ≡ Err unknown_in_version_1
unfolding key_of_version_2 document_of is_utf8 chars toml_on_literals platform_of_table platform_keys rows_from initiator_keys memory_row memory_traits digits
key_of_version_2_refused = refl
